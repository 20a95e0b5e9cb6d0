-- The operators of the nodes so far have their entries.
use Rattle.fvn_combine_tree.specs.inner.Drafts.{AreNodes, AreUnitsOf}
use Rattle.fvn_combine_tree.proofs.building.add_units.Given as goal

abbrev pub invariant-loop-i : goal.invariant-loop-i
invariant-loop-i l = record {
  nodes : AreNodes l.nodes.items;
  units : AreUnitsOf l.sig l.i l.initial.nodes.items l.nodes.items l.units.items;
}
