-- The variables of the nodes so far.
use Rattle.fvn_combine_nodes.specs.Table.{IsWellMade}
use Rattle.fvn_combine_triangular.proofs.Naming.{AreVariablesFront}
use Rattle.fvn_combine_triangular.proofs.names.variables.Given as goal

abbrev pub invariant-loop-node : goal.invariant-loop-node
invariant-loop-node l = (made : IsWellMade l.table) → AreVariablesFront l.table made l.node-index l.vars.items
