-- The marks so far.
use Rattle.fvn_combine_candidates.proofs.Living.{AreMarksBelow}
use Rattle.fvn_combine_candidates.proofs.alive.row_beside.Given as goal

abbrev pub invariant-loop-j : goal.invariant-loop-j
invariant-loop-j l = AreMarksBelow l.state l.heads l.sums l.k l.j l.marks.items
