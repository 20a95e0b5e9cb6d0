-- going on with what is left gives the whole
use Rattle.std.proofs.Common.{◌≡◌, ◌++◌, drop}
use Rattle.fvn_match.specs.inner.Tallies.{repeated}
use Rattle.fvn_match.specs.inner.Summands.{references}
use Rattle.fvn_match.proofs.wholes.copies.Given as goal

abbrev pub invariant-loop-i : goal.invariant-loop-i
invariant-loop-i l = l.all.items ++ repeated (drop l.i (references l.pieces)) (drop l.i l.chosen) ≡ repeated (references l.pieces) l.chosen
