-- The columns so far that are so.
use Rattle.fvn_combine_nodes.specs.States.{class_of}
use Rattle.fvn_combine_bounds.specs.Bounding.{AreColumnsBelow}
use Rattle.fvn_combine_bounds.specs.inner.Nodes.{IsNarrowColumn}
use Rattle.fvn_combine_bounds.proofs.bounding.narrow_columns.Given as goal

abbrev pub invariant-loop-j : goal.invariant-loop-j
invariant-loop-j l = AreColumnsBelow (IsNarrowColumn l.sig l.table (class_of l.state) l.sums) l.j l.list.items
