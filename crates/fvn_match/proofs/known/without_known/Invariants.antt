-- what is open, with the patterns that were not looked at yet, asks the same
use Rattle.std.proofs.Common.{drop}
use Rattle.fvn_match.specs.inner.Summands.{references}
use Rattle.fvn_match.specs.inner.Goals.{bindings_of}
use Rattle.fvn_match.proofs.KnownSteps.{Leaving}
use Rattle.fvn_match.proofs.known.without_known.Given as goal

abbrev pub invariant-loop-p : goal.invariant-loop-p
invariant-loop-p l = Leaving l.sig (bindings_of l.bound) l.goal (references l.patterns.items) l.left.items (drop l.p-index (references l.p-items))
