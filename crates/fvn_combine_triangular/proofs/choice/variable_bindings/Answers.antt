-- One more node.
use Rattle.std.proofs.Common.{◌≡◌, List, [], ◌∷◌, ◌++◌, length, sym, ap, ◌∙◌, subst, arith}
use Rattle.fvn_forms.specs.Flat.{FlatTerm, fvar}
use Rattle.fvn_combine_nodes.specs.declared.table.Node.{Node}
use Rattle.fvn_combine_nodes.specs.States.{class_of}
use Rattle.fvn_combine_triangular.specs.inner.Planning.{name_in, AreVariablesBelow}
use Rattle.fvn_combine_triangular.proofs.Bound.{IsBoundTo, bound_one}
use Rattle.fvn_combine_triangular.proofs.choice.variable_bindings.Goals as goal
use Rattle.fvn_combine_triangular.proofs.choice.variable_bindings.Goals.{Joined-node, in-Var+in_ok-push-in-Var, in-App}

bound_so : (c : Joined-node) → IsBoundTo c.args.table.now c.recall_well_made.ensures (class_of c.args.state.now) c.args.names.now c.node.result.now c.loop-i.i c.loop-i.bindings.items c.match-node.bindings.items
bound_so c = elim c.match-node.branch [
  | in-Var+in_ok-push-in-Var w ↦ subst (λ n. IsBoundTo c.args.table.now c.recall_well_made.ensures (class_of c.args.state.now) c.args.names.now n c.loop-i.i c.loop-i.bindings.items c.match-node.bindings.items) (sym w.in-Var.is) (ap (λ v. v.items) w.bindings-is ∙ w.in_ok-push-in-Var.ensures.items ∙ ap (λ (u : FlatTerm). c.loop-i.bindings.items ++ (w.in-Var.x, u) ∷ []) (w.var.ensures ∙ ap (λ k. fvar (name_in c.args.names.now k)) w.class_of.ensures))
  | in-App w ↦ subst (λ n. IsBoundTo c.args.table.now c.recall_well_made.ensures (class_of c.args.state.now) c.args.names.now n c.loop-i.i c.loop-i.bindings.items c.match-node.bindings.items) (sym w.in-App.is) (ap (λ v. v.items) w.bindings-is)
]

pub loop-i-preserved : goal.loop-i-preserved
loop-i-preserved c = bound_one c.args.table.now c.recall_well_made.ensures (class_of c.args.state.now) c.args.names.now c.loop-i.i c.loop-i.bindings.items c.match-node.bindings.items c.node.result.now c.node.ensures (bound_so c) c.loop-i.invariant

pub returns : goal.returns
returns c =
    let n = ap (λ (ns : List Node). length ns) c.nodes-i-end.ensures in
    let t = c.loop-i-test.false in
    let a = c.loop-i.auto.i-end in
    let whole : c.loop-i.i ≡ length c.args.table.now.nodes = omega (arith, n, t, a) in
    subst (λ m. AreVariablesBelow c.args.table.now (class_of c.args.state.now) c.args.names.now m c.loop-i.bindings.items) whole c.loop-i.invariant
