-- The constants among the columns so far.
use Rattle.fvn_combine_admissible.specs.inner.Reads.{AreConstantsBelow}
use Rattle.fvn_combine_admissible.proofs.asking.constants_of.Given as goal

abbrev pub invariant-loop-j : goal.invariant-loop-j
invariant-loop-j l = AreConstantsBelow l.reading l.tags l.sums l.j l.constants.items
