-- the values so far
use Rattle.std.proofs.Common.{◌≡◌, take}
use Rattle.fvn_flat.specs.Bindings.{value}
use Rattle.fvn_match.specs.inner.Candidates.{pairs_of}
use Rattle.fvn_match.specs.inner.Goals.{bindings_of}
use Rattle.fvn_match.proofs.answers.answer.Given as goal

abbrev pub invariant-loop-x : goal.invariant-loop-x
invariant-loop-x l = l.s ≡ pairs_of (take l.x-index l.vars) (value (bindings_of l.values))
