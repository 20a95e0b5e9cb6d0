-- The minimal solutions of the operators so far.
use Rattle.fvn_combine_candidates.specs.inner.Walking.{IsKeptBasis, AreBasesBelow}
use Rattle.fvn_combine_candidates.proofs.opening.all_bases.Given as goal

abbrev pub invariant-loop-i : goal.invariant-loop-i
invariant-loop-i l = AreBasesBelow (λ e. IsKeptBasis e.system) l.sums l.i l.bases.items
