-- The minimal solutions of the operators so far.
use Rattle.fvn_combine_candidates.specs.inner.Alive.{IsAliveBasis}
use Rattle.fvn_combine_candidates.specs.inner.Walking.{AreBasesBelow}
use Rattle.fvn_combine_candidates.proofs.last_first.bases_from_last.Given as goal

abbrev pub invariant-loop-i : goal.invariant-loop-i
invariant-loop-i l = AreBasesBelow (IsAliveBasis l.sig l.table l.state) l.reading.sums l.i l.bases.items
