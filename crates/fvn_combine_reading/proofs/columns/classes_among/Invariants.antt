-- The classes of the sums so far.
use Rattle.std.proofs.Common.{◌≡◌, take}
use Rattle.fvn_combine_nodes.specs.States.{class_of}
use Rattle.fvn_combine_reading.specs.inner.Collecting.{classes_among}
use Rattle.fvn_combine_reading.proofs.columns.classes_among.Given as goal

abbrev pub invariant-loop-i : goal.invariant-loop-i
invariant-loop-i l = l.classes.items ≡ classes_among (class_of l.state) l.table l.f (take l.i-index l.table.subterms)
