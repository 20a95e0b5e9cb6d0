-- The columns so far of which the class does not take it.
use Rattle.fvn_combine_nodes.specs.States.{class_of}
use Rattle.fvn_combine_candidates.specs.inner.Letting.{AreFixedBelow}
use Rattle.fvn_combine_candidates.proofs.vanishing.fixed_columns.Given as goal

abbrev pub invariant-loop-j : goal.invariant-loop-j
invariant-loop-j l = AreFixedBelow l.sig l.table (class_of l.state) l.sums l.e l.j l.list.items
