-- The heads of the nodes so far.
use Rattle.fvn_combine_nodes.specs.States.{class_of}
use Rattle.fvn_combine_reading.specs.inner.Reading.{AreHeadsBelow}
use Rattle.fvn_combine_reading.proofs.heads.heads_of.Given as goal

abbrev pub invariant-loop-i : goal.invariant-loop-i
invariant-loop-i l = AreHeadsBelow l.sig l.table (class_of l.state) l.i l.heads.items
