-- What is asked depends on the operators' axioms.
use Rattle.std.proofs.Common.{◌≡◌, true, false, not, refl, sym, ap, ◌∙◌, subst}
use Rattle.std.specs.Prelude.{is_some}
use Rattle.std.proofs.lemmas.Bool.{eq-eqb, not-false}
use Rattle.fvn_terms.specs.declared.declarations.Axioms.TheVariants.{Free, Comm}
use Rattle.fvn_terms.specs.Signature.{axioms}
use Rattle.fvn_forms.specs.Canon.{same_op}
use Rattle.fvn_terms.specs.Equality.{IsAssociative}
use Rattle.fvn_terms.proofs.AxiomWords.{free_is}
use Rattle.fvn_forms.proofs.Sums.{same_op_is}
use Rattle.fvn_combine_nodes.specs.Classes.{AreTogether, MeetInPairs, AreAlike}
use Rattle.fvn_combine_nodes.specs.States.{class_of, IsOpen}
use Rattle.fvn_combine_tree.specs.inner.Closing.{state_of}
use Rattle.fvn_combine_tree.proofs.Moves.{same_nodes, moved-weaker}
use Rattle.fvn_combine_nodes.proofs.AxiomTests.{no_identity, some_identity, commutative_from_rest}
use Rattle.fvn_combine_tree.proofs.Alike.{alike_identity, alike_free, alike_commutative, alike_associative}
use Rattle.fvn_combine_tree.proofs.closing.Closing.unite.Goals as goal

pub returns-then-is_some : goal.returns-then-is_some
returns-then-is_some c = (
  refl,
  alike_identity c.args.sig.now _ _ c.args.f c.args.g c.args.ks.now c.args.ls.now
      (λ a b. some_identity (axioms c.args.sig.now c.args.f) (ap is_some (sym c.identity.ensures) ∙ sym c.is_some.ensures ∙ c.if-is_some.true) a),
)

pub returns-then-is_some-2 : goal.returns-then-is_some-2
returns-then-is_some-2 c = (
  refl,
  alike_identity c.args.sig.now _ _ c.args.f c.args.g c.args.ks.now c.args.ls.now
      (λ a b. some_identity (axioms c.args.sig.now c.args.g) (ap is_some (sym c.identity-2.ensures) ∙ sym c.is_some-2.ensures ∙ c.if-is_some-2.true) b),
)

pub returns-then-ne : goal.returns-then-ne
returns-then-ne c = (
  same_nodes (state_of c.args.self.now) c.requires.naming,
  λ class alike admits.
      let a = no_identity (axioms c.args.sig.now c.args.f) (ap is_some (sym c.identity.ensures) ∙ sym c.is_some.ensures ∙ c.if-is_some.false) in
      let b = no_identity (axioms c.args.sig.now c.args.g) (ap is_some (sym c.identity-2.ensures) ∙ sym c.is_some-2.ensures ∙ c.if-is_some-2.false) in
      let one : c.args.f ≡ c.args.g = alike.one_head a b in
      let z : true ≡ false = sym c.if-ne.true ∙ c.ne.ensures ∙ ap not (eq-eqb c.args.f.0 c.args.g.0 (ap (λ o. o.0) one)) in
      cc,
)

pub returns-then-is_free : goal.returns-then-is_free
returns-then-is_free c =
    let d = c.args.sig.now in
    let f = c.args.f in
    let g = c.args.g in
    let ks = c.args.ks.now in
    let ls = c.args.ls.now in
    let s = state_of c.args.self.now in
    let one : f ≡ g = same_op_is f g (not-false (same_op f g) (sym c.ne.ensures ∙ c.if-ne.false)) in
    let is : axioms d f ≡ Free = sym c.axioms-axioms.ensures ∙ free_is c.axioms-axioms.result (sym c.is_free.ensures ∙ c.if-is_free.true) in
    moved-weaker (λ class. AreTogether class ks ls) (λ class. AreAlike d (λ a v. ⊥) class f g ks ls) (λ s. AreTogether (class_of s) ks ls) (λ s. AreAlike d (IsOpen s) (class_of s) f g ks ls) s (state_of c.join_all.new.self) c.join_all.result
    (λ class admits alike. alike.free is one) (λ h. alike_free d (IsOpen s) (class_of s) f g ks ls one is h) c.join_all.ensures

pub returns : goal.returns
returns c =
    let d = c.args.sig.now in
    let f = c.args.f in
    let g = c.args.g in
    let ks = c.args.ks.now in
    let ls = c.args.ls.now in
    let s = state_of c.args.self.now in
    let one : f ≡ g = same_op_is f g (not-false (same_op f g) (sym c.ne.ensures ∙ c.if-ne.false)) in
    let is : axioms d f ≡ Comm = sym c.axioms-axioms.ensures ∙ commutative_from_rest c.axioms-axioms.result (sym c.is_sum.ensures.exact ∙ c.if-is_sum.false) (sym c.is_free.ensures ∙ c.if-is_free.false) in
    moved-weaker (MeetInPairs (λ a v. ⊥) ks ls) (λ class. AreAlike d (λ a v. ⊥) class f g ks ls) (λ s. MeetInPairs (IsOpen s) ks ls (class_of s)) (λ s. AreAlike d (IsOpen s) (class_of s) f g ks ls) s (state_of c.turn_all.new.self) c.turn_all.result
    (λ class admits alike. alike.commutative is one) (λ h. alike_commutative d (IsOpen s) (class_of s) f g ks ls one is h) c.turn_all.ensures

pub returns-then-is_sum : goal.returns-then-is_sum
returns-then-is_sum c =
    let d = c.args.sig.now in
    let f = c.args.f in
    let g = c.args.g in
    let one : f ≡ g = same_op_is f g (not-false (same_op f g) (sym c.ne.ensures ∙ c.if-ne.false)) in
    (refl, alike_associative d (IsOpen (state_of c.args.self.now)) (class_of (state_of c.args.self.now)) f g c.args.ks.now c.args.ls.now one (subst IsAssociative c.axioms-axioms.ensures (c.is_sum.ensures.holds.0 c.if-is_sum.true)))
