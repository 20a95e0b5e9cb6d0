-- Nothing is open, or the first arguments are.
use Rattle.std.proofs.Common.{◌≡◌, ◌<◌, true, false, not, length, All, sym, ap, ◌∙◌, subst, inr, Some}
use Rattle.std.proofs.lemmas.Bool.{eq-eqb, eqb-true, not-false}
use Rattle.fvn_forms.specs.Canon.{same_op}
use Rattle.fvn_forms.proofs.Sums.{same_op_is}
use Rattle.fvn_combine_nodes.specs.Table.{IsOver}
use Rattle.fvn_combine_nodes.specs.States.{class_of}
use Rattle.fvn_combine_questions.specs.inner.Swaps.{IsOpenFirst}
use Rattle.fvn_combine_nodes.proofs.Nodes.{arguments_within}
use Rattle.fvn_combine_questions.proofs.Swapping.{decided_variable, decided_variable_right, decided_from, swap_from}
use Rattle.fvn_combine_questions.proofs.swaps.undecided_at.Goals as goal
use Rattle.fvn_combine_questions.proofs.swaps.undecided_at.Goals.{In-App-node, After-open_first}

left_is : (c : goal.In-App-node) → IsOver c.args.table.now.nodes c.args.i c.in-App.f c.in-App.ks
left_is c = c.node.ensures ∙ ap Some c.in-App.is

right_is : (c : goal.In-App-node) → IsOver c.args.table.now.nodes c.args.j c.in-App-node.g c.in-App-node.ls
right_is c = c.node-in-App.ensures ∙ ap Some c.in-App-node.is

pub returns-in-Var : goal.returns-in-Var
returns-in-Var c = decided_variable c.args.sig.now c.args.table.now c.args.state.now c.args.i c.args.j c.in-Var.field-0 (c.node.ensures ∙ ap Some c.in-Var.is)

pub returns-in-Var-node : goal.returns-in-Var-node
returns-in-Var-node c = decided_variable_right c.args.sig.now c.args.table.now c.args.state.now c.args.i c.args.j c.in-Var-node.field-0 (c.node-in-App.ensures ∙ ap Some c.in-Var-node.is)

pub returns-then-ne : goal.returns-then-ne
returns-then-ne c =
    let at = (goal.at.returns-then-ne c).In-App-node in
    decided_from c.args.sig.now c.args.table.now c.args.state.now c.requires.closed c.args.i c.args.j c.in-App.f c.in-App-node.g c.in-App.ks c.in-App-node.ls (left_is at) (right_is at)
    (λ e is same a b v w p q. inr (λ o. let z : true ≡ false = sym c.if-ne.true ∙ c.ne.ensures ∙ ap not (eq-eqb c.in-App.f.0 c.in-App-node.g.0 (ap (λ o. o.0) same)) in cc))

pub returns-then-not-is_only_commutative : goal.returns-then-not-is_only_commutative
returns-then-not-is_only_commutative c =
    let at = (goal.at.returns-then-not-is_only_commutative c).In-App-node in
    decided_from c.args.sig.now c.args.table.now c.args.state.now c.requires.closed c.args.i c.args.j c.in-App.f c.in-App-node.g c.in-App.ks c.in-App-node.ls (left_is at) (right_is at)
    (λ e is same a b v w p q. inr (λ o. let z : true ≡ false = sym (c.is_only_commutative.ensures.1 (c.axioms.ensures ∙ is)) ∙ c.if-not-is_only_commutative.true in cc))

pub returns-then-not-is_same : goal.returns-then-not-is_same
returns-then-not-is_same c =
    let at = (goal.at.returns-then-not-is_same c).In-App-node in
    let s = c.args.state.now in
    decided_from c.args.sig.now c.args.table.now s c.requires.closed c.args.i c.args.j c.in-App.f c.in-App-node.g c.in-App.ks c.in-App-node.ls (left_is at) (right_is at)
    (λ e is same a b v w p q. inr (λ o. let z : true ≡ false = sym (eq-eqb (class_of s c.args.i) (class_of s c.args.j) e) ∙ sym c.is_same.ensures ∙ c.if-not-is_same.true in cc))

-- the lists of arguments
first_is : (c : goal.After-open_first) → IsOpenFirst c.args.state.now c.in-App.ks c.in-App-node.ls c.open_first.result
first_is c =
    subst (λ ls. IsOpenFirst c.args.state.now c.in-App.ks ls c.open_first.result) c.as_slice-in-App-node.ensures (subst (λ ks. IsOpenFirst c.args.state.now ks c.as_slice-in-App-node.result.now c.open_first.result) c.as_slice.ensures c.open_first.ensures)

pub open_first-requires : goal.open_first-requires
open_first-requires c =
    let at = (goal.at.open_first-requires c).In-App-node in
    let ordered = c.recall_well_made.ensures.ordered in
    let w = c.requires.closed.whole in
    let left = arguments_within c.args.table.now.nodes ordered c.args.i c.in-App.f c.in-App.ks (left_is at) in
    let right = arguments_within c.args.table.now.nodes ordered c.args.j c.in-App-node.g c.in-App-node.ls (right_is at) in
    record {
      naming = c.requires.closed.naming;
      left = subst (λ n. All (λ k. k < n) c.as_slice.result.now) (sym w) (subst (All (λ k. k < length c.args.table.now.nodes)) (sym c.as_slice.ensures) left);
      right = subst (λ n. All (λ k. k < n) c.as_slice-in-App-node.result.now) (sym w) (subst (All (λ k. k < length c.args.table.now.nodes)) (sym c.as_slice-in-App-node.ensures) right);
    }

pub returns-else-not-is_same : goal.returns-else-not-is_same
returns-else-not-is_same c =
    let at = (goal.at.returns-else-not-is_same c).In-App-node in
    let d = c.args.sig.now in
    let s = c.args.state.now in
    let f = c.in-App.f in
    let g = c.in-App-node.g in
    let one : f ≡ g = same_op_is f g (not-false (same_op f g) (sym c.ne.ensures ∙ c.if-ne.false)) in
    let is = sym c.axioms.ensures ∙ c.is_only_commutative.ensures.0 c.if-not-is_only_commutative.false in
    let e : class_of s c.args.i ≡ class_of s c.args.j = eqb-true (class_of s c.args.i) (class_of s c.args.j) (sym c.is_same.ensures ∙ c.if-not-is_same.false) in
    swap_from d c.args.table.now s c.requires.closed c.args.i c.args.j f g c.in-App.ks c.in-App-node.ls (left_is at) (right_is at) one is e c.open_first.result (first_is (goal.at.returns-else-not-is_same c).After-open_first)
