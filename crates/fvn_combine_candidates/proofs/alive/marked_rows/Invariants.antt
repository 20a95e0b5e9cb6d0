-- The rows of the columns so far.
use Rattle.fvn_combine_candidates.specs.inner.Alive.{AreRowsBelow}
use Rattle.fvn_combine_candidates.proofs.alive.marked_rows.Given as goal

abbrev pub invariant-loop-i : goal.invariant-loop-i
invariant-loop-i l = AreRowsBelow l.state l.heads l.sums l.first l.i l.rows.items
