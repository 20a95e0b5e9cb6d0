-- The marks so far.
use Rattle.fvn_combine_candidates.specs.inner.Alive.{IsMarking}
use Rattle.fvn_combine_candidates.proofs.alive.row_of_all.Given as goal

abbrev pub invariant-loop-j : goal.invariant-loop-j
invariant-loop-j l = IsMarking l.j l.marks.items
