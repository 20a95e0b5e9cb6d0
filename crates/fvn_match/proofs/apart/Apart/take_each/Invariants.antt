-- What is left of two lists of references.
use Rattle.std.proofs.Common.{drop}
use Rattle.fvn_match.specs.inner.Summands.{references}
use Rattle.fvn_match.specs.inner.Goals.{bindings_of}
use Rattle.fvn_match.proofs.TakingApart.{IsLeft}
use Rattle.fvn_match.proofs.apart.Apart.take_each.Given as goal

abbrev pub invariant-loop-i : goal.invariant-loop-i
invariant-loop-i l = IsLeft l.sig (bindings_of l.bound) l.initial.self l.self (references l.ps) (references l.ts) (drop l.i (references l.ps)) (drop l.i (references l.ts))
