-- The solutions at the rows so far.
use Rattle.fvn_combine_candidates.specs.inner.Alive.{AreGathered}
use Rattle.fvn_combine_candidates.proofs.alive.gathered.Given as goal

abbrev pub invariant-loop-i : goal.invariant-loop-i
invariant-loop-i l = AreGathered l.system l.rows l.i l.list.items
