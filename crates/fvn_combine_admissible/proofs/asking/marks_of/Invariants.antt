-- The marks of the columns so far.
use Rattle.fvn_combine_admissible.specs.inner.Reads.{AreMarksBelow}
use Rattle.fvn_combine_admissible.proofs.asking.marks_of.Given as goal

abbrev pub invariant-loop-j : goal.invariant-loop-j
invariant-loop-j l = AreMarksBelow l.sig l.reading l.tags l.sums l.j l.marks.items
