-- Nodes of one class are made alike, and congruent nodes are joined.
use Rattle.std.proofs.Common.{◌≡◌, ◌≢◌, ◌<◌, true, false, not, refl, sym, ap, ◌∙◌, subst, Some, All}
use Rattle.std.proofs.lemmas.Bool.{eqb-true, eqb-false, eq-eqb, not-false}
use Rattle.fvn_forms.specs.Canon.{same_op}
use Rattle.fvn_forms.proofs.Sums.{same_op_is}
use Rattle.fvn_combine_nodes.specs.Table.{IsOver}
use Rattle.fvn_combine_nodes.specs.Classes.{AreTogether, AreAlike, IsNodePartition}
use Rattle.fvn_combine_nodes.specs.States.{class_of, IsOpen}
use Rattle.fvn_combine_tree.specs.inner.Closing.{state_of, HasMoved}
use Rattle.fvn_combine_tree.specs.inner.Rounds.{AreSettled}
use Rattle.fvn_combine_tree.proofs.Moves.{moved-weaker}
use Rattle.fvn_combine_tree.proofs.Settling.{settled_variable, settled_variable_right, settled_alike, settled_apart, known_alike, known_congruent}
use Rattle.fvn_combine_nodes.proofs.Nodes.{arguments_within}
use Rattle.fvn_combine_tree.proofs.closing.Closing.settle.Goals as goal
use Rattle.fvn_combine_tree.proofs.closing.Closing.settle.Goals.{In-App-node}

-- the nodes that are looked at
left_is : (c : goal.In-App-node) → IsOver c.args.table.now.nodes c.args.i c.in-App.f c.in-App.ks
left_is c = c.node.ensures ∙ ap Some c.in-App.is

right_is : (c : goal.In-App-node) → IsOver c.args.table.now.nodes c.args.j c.in-App-node.g c.in-App-node.ls
right_is c = c.node-in-App.ensures ∙ ap Some c.in-App-node.is

pub returns-in-Var : goal.returns-in-Var
returns-in-Var c = (refl, settled_variable c.args.sig.now c.args.table.now (state_of c.args.self.now) c.args.i c.args.j c.in-Var.field-0 (c.node.ensures ∙ ap Some c.in-Var.is))

pub returns-in-Var-node : goal.returns-in-Var-node
returns-in-Var-node c = (refl, settled_variable_right c.args.sig.now c.args.table.now (state_of c.args.self.now) c.args.i c.args.j c.in-Var-node.field-0 (c.node-in-App.ensures ∙ ap Some c.in-Var-node.is))

pub returns-then-is_same : goal.returns-then-is_same
returns-then-is_same c =
    let d = c.args.sig.now in
    let t = c.args.table.now in
    let s = state_of c.args.self.now in
    let at = (goal.at.returns-then-is_same c).In-App-node in
    let f = c.in-App.f in
    let g = c.in-App-node.g in
    let ks = c.in-App.ks in
    let ls = c.in-App-node.ls in
    let e : class_of s c.args.i ≡ class_of s c.args.j = eqb-true (class_of s c.args.i) (class_of s c.args.j) (sym c.is_same.ensures ∙ c.if-is_same.true) in
    let done : HasMoved (λ class. AreAlike d (λ a v. ⊥) class f g ks ls) (λ s. AreAlike d (IsOpen s) (class_of s) f g ks ls) s (state_of c.unite.new.self) c.unite.result =
    subst (λ ms. HasMoved (λ class. AreAlike d (λ a v. ⊥) class f g ks ms) (λ s. AreAlike d (IsOpen s) (class_of s) f g ks ms) s (state_of c.unite.new.self) c.unite.result) c.as_slice-ls.ensures
    (subst (λ ms. HasMoved (λ class. AreAlike d (λ a v. ⊥) class f g ms c.as_slice-ls.result.now) (λ s. AreAlike d (IsOpen s) (class_of s) f g ms c.as_slice-ls.result.now) s (state_of c.unite.new.self) c.unite.result) c.as_slice-ks.ensures c.unite.ensures)
    in
    moved-weaker (λ class. AreAlike d (λ a v. ⊥) class f g ks ls) (IsNodePartition d t) (λ s. AreAlike d (IsOpen s) (class_of s) f g ks ls) (AreSettled d t c.args.i c.args.j) s (state_of c.unite.new.self) c.unite.result
    (λ class admits partition. known_alike d t s c.args.i c.args.j f g ks ls (left_is at) (right_is at) c.requires.whole class admits partition e)
    (λ h. settled_alike d t s c.args.i c.args.j f g ks ls (left_is at) (right_is at) e h) done

-- nodes of different classes with other operators
pub returns-then-ne : goal.returns-then-ne
returns-then-ne c =
    let d = c.args.sig.now in
    let t = c.args.table.now in
    let s = state_of c.args.self.now in
    let at = (goal.at.returns-then-ne c).In-App-node in
    let f = c.in-App.f in
    let g = c.in-App-node.g in
    let n : class_of s c.args.i ≢ class_of s c.args.j = eqb-false (class_of s c.args.i) (class_of s c.args.j) (sym c.is_same.ensures ∙ c.if-is_same.false) in (
      refl,
      settled_apart d t s c.args.i c.args.j f g c.in-App.ks c.in-App-node.ls (left_is at) (right_is at) n
          (λ one e. let z : true ≡ false = sym c.if-ne.true ∙ c.ne.ensures ∙ ap not (eq-eqb f.0 g.0 (ap (λ o. o.0) one)) in cc),
    )

pub returns-then-are_together : goal.returns-then-are_together
returns-then-are_together c =
    let d = c.args.sig.now in
    let t = c.args.table.now in
    let s = state_of c.args.self.now in
    let at = (goal.at.returns-then-are_together c).In-App-node in
    let f = c.in-App.f in
    let g = c.in-App-node.g in
    let ks = c.in-App.ks in
    let ls = c.in-App-node.ls in
    let i = c.args.i in
    let j = c.args.j in
    let n : class_of s i ≢ class_of s j = eqb-false (class_of s i) (class_of s j) (sym c.is_same.ensures ∙ c.if-is_same.false) in
    let one : f ≡ g = same_op_is f g (not-false (same_op f g) (sym c.ne.ensures ∙ c.if-ne.false)) in
    let raw = c.are_together.ensures.0 c.if-are_together.true in
    let together : AreTogether (class_of s) ks ls = subst (λ ms. AreTogether (class_of s) ks ms) c.as_slice-ls.ensures (subst (λ ms. AreTogether (class_of s) ms c.as_slice-ls.result.now) c.as_slice-ks.ensures raw) in
    let w = c.requires.whole in
    let a = subst (λ m. All (λ k. k < m) ks) (sym w) (arguments_within t.nodes c.recall_well_made.ensures.ordered i f ks (left_is at)) in
    let b = subst (λ m. All (λ k. k < m) ls) (sym w) (arguments_within t.nodes c.recall_well_made.ensures.ordered j g ls (right_is at)) in
    moved-weaker (λ class. class i ≡ class j) (IsNodePartition d t) (λ s. class_of s i ≡ class_of s j) (AreSettled d t i j) s (state_of c.join.new.self) c.join.result
    (λ class admits partition. known_congruent d t s i j f g ks ls (left_is at) (right_is at) class admits partition a b one together)
    (λ h. absurd (n h)) c.join.ensures.moved

pub returns-else-are_together : goal.returns-else-are_together
returns-else-are_together c =
    let d = c.args.sig.now in
    let t = c.args.table.now in
    let s = state_of c.args.self.now in
    let at = (goal.at.returns-else-are_together c).In-App-node in
    let ks = c.in-App.ks in
    let ls = c.in-App-node.ls in
    let n : class_of s c.args.i ≢ class_of s c.args.j = eqb-false (class_of s c.args.i) (class_of s c.args.j) (sym c.is_same.ensures ∙ c.if-is_same.false) in (
      refl,
      settled_apart d t s c.args.i c.args.j c.in-App.f c.in-App-node.g ks ls (left_is at) (right_is at) n
          (
          λ one e.
          let raw = subst (λ ms. AreTogether (class_of s) ms c.as_slice-ls.result.now) (sym c.as_slice-ks.ensures) (subst (AreTogether (class_of s) ks) (sym c.as_slice-ls.ensures) e) in
          let z : true ≡ false = sym (c.are_together.ensures.1 raw) ∙ c.if-are_together.false in
          cc
          ),
    )
