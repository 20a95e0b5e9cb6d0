-- The new value of an idle node's operator over those of its arguments is that of its class.
use Rattle.std.proofs.Common.{ℕ, ◌<◌, List, [], ◌∷◌, length, map, subst, inl, inr, Contains}
use Rattle.fvn_base.proofs.Membership.{contains_here, contains_later}
use Rattle.fvn_terms.specs.declared.plain.OpId.{OpId}
use Rattle.fvn_terms.specs.declared.plain.SortId.{SortId}
use Rattle.fvn_terms.specs.declared.declarations.Declarations.{Declarations}
use Rattle.fvn_terms.specs.Term.{app, pack}
use Rattle.fvn_terms.specs.Substitution.{Substitution, apply}
use Rattle.fvn_terms.specs.Signature.{HasKind, HaveKinds}
use Rattle.fvn_terms.specs.Places.{here, stop, step}
use Rattle.fvn_terms.specs.Equality.{two, constant, BEqual, left_identity, right_identity}
use Rattle.fvn_terms.specs.Unifiers.{Problem}
use Rattle.fvn_terms.proofs.Steps.{each_none, each_more}
use Rattle.fvn_terms.proofs.Equal.{BEqual-sym, BEqual-trans, BEqual-inside}
use Rattle.fvn_forms.proofs.KindsKept.{b_equal_keeps_kind}
use Rattle.fvn_combine_nodes.specs.Table.{NodeTable, IsOver, term_at}
use Rattle.fvn_combine_nodes.specs.States.{class_of}
use Rattle.fvn_combine_nodes.specs.declared.state.State.{State}
use Rattle.fvn_combine_nodes.proofs.Nodes.{term_at-over}
use Rattle.fvn_combine_nodes.proofs.Subterms.{node_kinded}
use Rattle.fvn_combine_loose.specs.Loose.{IsIdle}
use Rattle.fvn_combine_loose.proofs.Setting.{Setting, argument_within, unit_is, unit_within, unit_low}
use Rattle.fvn_combine_loose.proofs.Remade.{remade, remade_low, over_classes}
use Rattle.fvn_combine_loose.proofs.After.{remade_kinded}

module _ {d : Declarations} {problem : Problem} {t : NodeTable} {s : State} {z : ℕ} {heights : List ℕ} {u : Substitution} (g : Setting d problem t s z heights u) where
  -- new values have the kinds of the terms of nodes
  kinds_remade : (ks : List ℕ) (qs : List SortId) → ((k : ℕ) → Contains ks k → k < length t.nodes) → HaveKinds d (pack (map (term_at t.nodes) ks)) qs → HaveKinds d (pack (map (remade g) ks)) qs
  kinds_remade [] qs within h = h
  kinds_remade (k ∷ ks) [] within h = absurd h
  kinds_remade (k ∷ ks) (q ∷ qs) within h = (remade_kinded g k q (within k (contains_here k ks)) h.0, kinds_remade ks qs (λ j c. within j (contains_later k ks j c)) h.1)

  pub over_kinded : (i : ℕ) (f : OpId) (ks : List ℕ) → IsOver t.nodes i f ks → (q : SortId) → HasKind d (term_at t.nodes i) q → HasKind d (app f (pack (map (remade g) ks))) q
  over_kinded i f ks over q h =
      let w : HasKind d (app f (pack (map (term_at t.nodes) ks))) q = subst (λ v. HasKind d v q) (term_at-over t.nodes g.made.ordered i f ks over) h in
      record { rank = w.rank; listed = w.listed; args = kinds_remade ks _ (argument_within g i f ks over) w.args; result = w.result }

  -- an identity is its own new value, up to the axioms
  unit_value : (f : OpId) (n : ℕ) (c : Contains t.units (f, n)) → BEqual d (remade g n) (constant (unit_is g f n c).constant_of)
  unit_value f n c =
      let unit = unit_is g f n c in
      BEqual-sym d (subst (λ v. BEqual d (apply u v) (remade g n)) unit.is (remade_low g n (unit_within g f n c) (unit_low g f n c)))

  pub idle_value : (i : ℕ) (f : OpId) (ks : List ℕ) → IsOver t.nodes i f ks → i < length t.nodes → IsIdle t s i f ks → BEqual d (app f (pack (map (remade g) ks))) (remade g i)
  idle_value i f ks over l idle =
      let n = idle.identity in
      let unit = unit_is g f n idle.listed in
      let e = unit.constant_of in
      let one = unit_value f n idle.listed in
      let h = node_kinded d g.good.fits problem g.kinded t g.table i l in
      let own : HasKind d (remade g i) h.0 = remade_kinded g i h.0 l h.1 in
      let whole : HasKind d (app f (pack (map (remade g) ks))) h.0 = over_kinded i f ks over h.0 h.1 in
      elim idle.classes as (λ _. BEqual d (app f (pack (map (remade g) ks))) (remade g i)) [
        | inl is ↦
            let beside : BEqual d (app f (pack (map (remade g) ks))) (two f (remade g i) (constant e)) =
            BEqual-trans d (over_classes g f ks (class_of s i ∷ class_of s n ∷ []) is) (BEqual-inside d f (each_more stop (each_more one each_none)))
            in
            BEqual-trans d beside (step (here (inl (right_identity unit.identity own (b_equal_keeps_kind d g.good.fits beside h.0 whole)))) stop)
        | inr is ↦
            let beside : BEqual d (app f (pack (map (remade g) ks))) (two f (constant e) (remade g i)) =
            BEqual-trans d (over_classes g f ks (class_of s n ∷ class_of s i ∷ []) is) (BEqual-inside d f (each_more one (each_more stop each_none)))
            in
            BEqual-trans d beside (step (here (inl (left_identity unit.identity own (b_equal_keeps_kind d g.good.fits beside h.0 whole)))) stop)
      ]
