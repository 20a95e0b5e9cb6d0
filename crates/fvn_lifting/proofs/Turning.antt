-- At a turn whose unifiers all became children or gave reducible values, each instance that meets the rule lifts.
use Rattle.std.proofs.Common.{◌⊎◌, ℕ, suc, List, [], ◌∷◌, map, sym, subst, inl, inr, arith}
use Rattle.std.specs.List.{AllZip, All, Any, Contains}
use Rattle.fvn_terms.specs.declared.plain.Var.{Var}
use Rattle.fvn_terms.specs.Term.{Term}
use Rattle.fvn_terms.specs.Substitution.{Substitution, apply, followed_by, Occurs}
use Rattle.fvn_terms.specs.Places.{stop}
use Rattle.fvn_terms.specs.Equality.{BEqual}
use Rattle.fvn_terms.specs.Sorts.{IsWellSorted}
use Rattle.fvn_terms.specs.Rewriting.{IsReducible, IsIrreducible, ListSequence}
use Rattle.fvn_terms.specs.Laws.{RewritingLaws}
use Rattle.fvn_terms.proofs.Substitutions.{apply-apply}
use Rattle.fvn_terms.proofs.Equal.{BEqual-apply, BEqual-sym, BEqual-trans}
use Rattle.fvn_forms.specs.Flat.{FlatTerm, plain}
use Rattle.fvn_flat.specs.Successors.{Narrowed, OccursIn}
use Rattle.fvn_cover.specs.declared.variant.Variant.{Variant}
use Rattle.fvn_rewrite_laws.proofs.Agreement.{equal_by_agreement}
use Rattle.fvn_rewrite_laws.proofs.Lists.{each_equal_itself, list_before, list_instance}
use Rattle.fvn_exploring.specs.Setting.{Setting}
use Rattle.fvn_exploring.specs.Liftings.{instance_of}
use Rattle.fvn_lifting.specs.Meetings.{IsNew, ComeFrom}
use Rattle.fvn_lifting.specs.Laws.{AreFixedOver}
use Rattle.fvn_lifting.specs.Lifted.{instances, IsStepUnder, KeepsIrreducibleFrom, IsLiftedFrom, IsBroughtTo, HasReducible, IsTurned}

module _ (g : Setting) (vars : List Var) (fixed : AreFixedOver g vars) (from : Narrowed) (rewriting : RewritingLaws g.declarations g.equations) where
  -- what a unifier makes of the instance, where s agrees with what follows it
  module _ (s : Substitution) (keeps : KeepsIrreducibleFrom g vars from s) (unifier by : Substitution) (sorted : IsWellSorted g.declarations by)
      (agree : (x : Var) → OccursIn g.declarations vars from x → BEqual g.declarations (s x) (apply by (unifier x))) where
    followed_equal : (t : Term) → ((x : Var) → Occurs x t → OccursIn g.declarations vars from x) → BEqual g.declarations (apply s t) (apply by (apply unifier t))
    followed_equal t within =
        subst (BEqual g.declarations (apply s t)) (sym (apply-apply unifier by t))
        (equal_by_agreement g.declarations s (followed_by unifier by) t (λ x o. agree x (within x o)))

    each_followed : (l : List FlatTerm) → ((x : Var) → Any (λ t. Occurs x (plain t)) l → OccursIn g.declarations vars from x) → AllZip (BEqual g.declarations) (map (apply s) (map plain l)) (map (apply by) (map (apply unifier) (map plain l)))
    each_followed [] within = tt
    each_followed (t ∷ l) within = (
      followed_equal (plain t) (λ x o. within x (0, t, omega arith, (λ i. t), o)),
      each_followed l (λ x a. within x (suc a.0, a.1, omega (arith, a.2), a.3, a.4)),
    )

    module _ (to : Narrowed) (step : IsStepUnder g.declarations vars g.equations from to unifier) where
      followed_step : ListSequence g.declarations g.equations 1 (instances s from) (map (apply by) (map plain to.terms))
      followed_step =
          list_before g.declarations g.equations rewriting 1 (map (apply by) (instances unifier from)) (instances s from) (map (apply by) (map plain to.terms)) (each_followed from.terms (λ x a. inl a))
          (list_instance g.declarations g.equations rewriting by sorted 1 (instances unifier from) (map plain to.terms) (map plain to.terms, (step.step, each_equal_itself g.declarations (map plain to.terms))))

      followed_value : (x : Var) → (c : Contains vars x) → BEqual g.declarations (apply s (from.values x)) (apply by (to.values x))
      followed_value x c =
          BEqual-trans g.declarations (followed_equal (from.values x) (λ y o. inr (x, c, o)))
          (BEqual-apply g.declarations by sorted.0 (step.same x c))

      -- so a child that it was brought to lifts the instance
      lifted_into : (c : Variant) → IsBroughtTo g vars to c → IsLiftedFrom g vars from s c
      lifted_into c brought = record {
        by = by;
        well_sorted = sorted;
        steps = brought.steps;
        sequence = (
          followed_step.0,
          (
            followed_step.1.0,
            list_before g.declarations g.equations rewriting brought.steps (map (apply by) (map plain to.terms)) followed_step.0 (instance_of by c) followed_step.1.1
                (list_instance g.declarations g.equations rewriting by sorted brought.steps (map plain to.terms) (map plain c.terms) brought.reached),
          ),
        );
        same = λ x h. BEqual-trans g.declarations (followed_value x h) (BEqual-apply g.declarations by sorted.0 (BEqual-sym g.declarations (brought.same x h)));
      }

      -- what the instance of a term of the successor is equal to steps as the term does
      steps_too : (t u : Term) → BEqual g.declarations u (apply by t) → IsReducible g.declarations g.equations t → IsReducible g.declarations g.equations u
      steps_too t u e (z, r) = (apply by z, rewriting.modulo (apply by t) u (apply by z) (apply by z) (BEqual-sym g.declarations e) (rewriting.instances by sorted t z r) stop)

      fixed_value : (t : Term) → ((y : Var) → Occurs y t → Contains vars y) → BEqual g.declarations (apply s (apply from.values t)) (apply by (apply to.values t))
      fixed_value t within =
          subst (λ a. BEqual g.declarations a (apply by (apply to.values t))) (sym (apply-apply from.values s t))
          (subst (BEqual g.declarations (apply (followed_by from.values s) t)) (sym (apply-apply to.values by t))
          (equal_by_agreement g.declarations (followed_by from.values s) (followed_by to.values by) t (λ y o. followed_value y (within y o))))

      -- and nothing of it is reducible
      not_reducible : HasReducible g vars to → ⊥
      not_reducible (inl (k, x, l, e, r)) =
          let h : Contains vars x = (k, l, e) in
          let z = steps_too (to.values x) (apply s (from.values x)) (followed_value x h) r in
          keeps.values x h z.0 z.1
      not_reducible (inr (k, t, l, e, r)) =
          let within = subst (λ (u : Term). (y : Var) → Occurs y u → Contains vars y) e (fixed k t l) in
          let stays = subst (λ (u : Term). IsIrreducible g.declarations g.equations (apply s (apply from.values u))) e (keeps.stay k t l) in
          let z = steps_too (apply to.values t) (apply s (apply from.values t)) (fixed_value t within) r in
          stays z.0 z.1

  module _ (left : FlatTerm) (first : ℕ) (old : (x : Var) → OccursIn g.declarations vars from x → (Occurs x (plain left) → ⊥) × (IsNew first x → ⊥)) (children : List Variant) where
    turned_lifts : (s c : Substitution) → KeepsIrreducibleFrom g vars from s → (unifier : Substitution) → ComeFrom g.declarations first (plain left) s c unifier → IsTurned g vars from children unifier → Any (IsLiftedFrom g vars from s) children
    turned_lifts s c keeps unifier come turned = go turned.taken where
      agree : (x : Var) → OccursIn g.declarations vars from x → BEqual g.declarations (s x) (apply come.by (unifier x))
      agree x o = let n = old x o in come.outside x n.0 n.1

      go : Any (IsBroughtTo g vars turned.to) children ⊎ HasReducible g vars turned.to → Any (IsLiftedFrom g vars from s) children
      go (inl (k, v, l, e, b)) = (k, v, l, e, lifted_into s keeps unifier come.by come.well_sorted agree turned.to turned.step v b)
      go (inr h) = absurd (not_reducible s keeps unifier come.by come.well_sorted agree turned.to turned.step h)

    pub some_lifts : (unifiers : List Substitution) → All (IsTurned g vars from children) unifiers → (s c : Substitution) → KeepsIrreducibleFrom g vars from s → Any (ComeFrom g.declarations first (plain left) s c) unifiers → Any (IsLiftedFrom g vars from s) children
    some_lifts unifiers turned s c keeps (k, u, l, e, come) = turned_lifts s c keeps u come (subst (IsTurned g vars from children) e (turned k u l))
