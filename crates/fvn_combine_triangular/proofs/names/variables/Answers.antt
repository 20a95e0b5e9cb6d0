-- One more node.
use Rattle.std.proofs.Common.{◌≤◌, List, length, sym, ap, ◌∙◌, subst}
use Rattle.fvn_combine_nodes.specs.declared.table.Node.{Node}
use Rattle.fvn_combine_triangular.proofs.Naming.{IsNoted, no_variables, more_variables, all_variables}
use Rattle.fvn_combine_triangular.proofs.names.variables.Goals as goal
use Rattle.fvn_combine_triangular.proofs.names.variables.Goals.{Joined-node, in-Var+in_ok-push-in-Var, in-App}

noted : (c : Joined-node) → IsNoted c.node-item.result c.loop-node.vars.items c.match-node.vars.items
noted c = elim c.match-node.branch [
  | in-Var+in_ok-push-in-Var w ↦ subst (λ n. IsNoted n c.loop-node.vars.items c.match-node.vars.items) (sym w.in-Var.is) (ap (λ v. v.items) w.vars-is ∙ w.in_ok-push-in-Var.ensures.items)
  | in-App w ↦ subst (λ n. IsNoted n c.loop-node.vars.items c.match-node.vars.items) (sym w.in-App.is) (ap (λ v. v.items) w.vars-is)
]

pub loop-node-init : goal.loop-node-init
loop-node-init c = λ made. no_variables c.args.table.now made c.new-vars.result.items c.new-vars.ensures.items

pub loop-node-preserved : goal.loop-node-preserved
loop-node-preserved c = λ made. more_variables c.args.table.now made c.nodes-node-items.result.now c.nodes-node-items.ensures c.loop-node.node-index c.loop-node.vars.items c.match-node.vars.items c.node-item.result c.loop-node-test.true c.node-item.is (c.loop-node.invariant made) (noted c)

pub returns : goal.returns
returns c =
    let made = c.recall_well_made.ensures in
    all_variables c.args.table.now made c.loop-node.node-index c.loop-node.vars.items (subst (λ (ns : List Node). length ns ≤ c.loop-node.node-index) c.nodes-node-items.ensures c.loop-node-test.false) (c.loop-node.invariant made)
