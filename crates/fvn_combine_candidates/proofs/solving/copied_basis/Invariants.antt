-- The solutions so far.
use Rattle.std.proofs.Common.{◌≡◌, take}
use Rattle.fvn_combine_candidates.proofs.solving.copied_basis.Given as goal

abbrev pub invariant-loop-solution : goal.invariant-loop-solution
invariant-loop-solution l = l.all.items ≡ take l.solution-index l.basis
