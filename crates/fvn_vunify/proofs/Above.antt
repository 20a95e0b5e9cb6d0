-- What is found for a variant that covers the normal forms of the sides is above the unifier in the theory.
use Rattle.std.proofs.Common.{◌≤◌, ℕ, List, map, sym, subst}
use Rattle.std.specs.List.{Any, Contains}
use Rattle.std.proofs.lemmas.List.Elements.{All-contains}
use Rattle.fvn_terms.specs.declared.plain.Var.{Var}
use Rattle.fvn_terms.specs.Term.{Term}
use Rattle.fvn_terms.specs.Substitution.{Substitution, apply, followed_by, Occurs}
use Rattle.fvn_terms.specs.Equality.{BEqual}
use Rattle.fvn_terms.specs.Unifiers.{IsUnifier, IsInstance}
use Rattle.fvn_terms.specs.Rewriting.{ListSequence, IsIrreducible, IsConfluent}
use Rattle.fvn_terms.specs.Variants.{Covers}
use Rattle.fvn_terms.proofs.Substitutions.{apply-apply}
use Rattle.fvn_terms.proofs.Equal.{BEqual-trans}
use Rattle.fvn_forms.specs.Flat.{plain}
use Rattle.fvn_forms.specs.FitsKinds.{FitsKinds}
use Rattle.fvn_flat.specs.Problems.{variables_of, plain_pairs, IsProblem}
use Rattle.fvn_flat.specs.Solving.{FlatPairs, substitution}
use Rattle.fvn_rewrite_laws.proofs.Agreement.{equal_by_agreement}
use Rattle.fvn_rewrite_normal_forms.specs.NormalForms.{HaveNormalForms}
use Rattle.fvn_rewrite_normal_forms.proofs.Normalising.{normal_forms_within}
use Rattle.fvn_cover.specs.declared.variant.Variant.{Variant}
use Rattle.fvn_exploring.specs.Setting.{Setting, AreLawfulIn}
use Rattle.fvn_exploring.specs.Explorations.{IsVariantOf}
use Rattle.fvn_vunify.specs.Sides.{sides_in_turn, problem_over}
use Rattle.fvn_vunify.specs.Solutions.{IsIrreducibleUnifier}
use Rattle.fvn_vunify.specs.inner.Attempts.{AreWholeFor}
use Rattle.fvn_vunify.proofs.Known.{AreKnown, lists_decided}
use Rattle.fvn_vunify.proofs.TwoByTwo.{plain_sides, side_has_variable, sides_kinded, normal_forms_unified}

module _ (g : Setting) (fits : FitsKinds g.declarations) (known : AreKnown g.declarations g.equations) (lawful : AreLawfulIn g)
    (pairs : FlatPairs) (kinds : IsProblem g.declarations (plain_pairs pairs)) (s : Substitution) (h : IsIrreducibleUnifier g (plain_pairs pairs) s) where
  -- the sides have normal forms where their sequences are bounded
  pub sides_normal : (most : ℕ) → ((k : ℕ) (us : List Term) → ListSequence g.declarations g.equations k (map (apply s) (plain_sides pairs)) us → k ≤ most) →
      HaveNormalForms g.declarations g.equations (map (apply s) (plain_sides pairs))
  sides_normal most bound =
      normal_forms_within g.declarations fits g.equations known.kinded (lists_decided g.declarations g.equations known.rewriting lawful.decided) most
      (map (apply s) (plain_sides pairs)) (sides_kinded g.declarations g.equations known.kinded s h.kept.unifier.0.0 pairs kinds) bound

  module _ (normal : HaveNormalForms g.declarations g.equations (map (apply s) (plain_sides pairs))) where
    -- these are a variant
    pub normal_variant : IsVariantOf g (sides_in_turn pairs) normal.forms s
    normal_variant = record {
      well_sorted = h.kept.unifier.0;
      values = λ x o. h.values x (side_has_variable pairs x o);
      stay = h.kept.stay;
      irreducible = normal.irreducible;
      steps = normal.steps;
      sequence = normal.reached;
    }

    -- what covers it, and is solved wholly, gives one above the unifier
    module _ (confluent : IsConfluent g.declarations g.equations) (vars : List Var) (v : Variant) (to_variant : (x : Var) → Contains vars x → Contains v.vars x)
        (to_problem : (x : Var) → Contains vars x → Contains (variables_of (plain_pairs pairs)) x)
        (from_problem : (x : Var) → Contains (variables_of (plain_pairs pairs)) x → Contains vars x)
        (over : (t : Term) → Contains g.fixed t → (x : Var) → Occurs x t → Contains vars x)
        (cover : Covers g.declarations v.vars (map plain v.terms) (substitution v.subst) normal.forms s) where
      unified : IsUnifier g.declarations (problem_over v.terms) cover.by
      unified = (
        cover.well_sorted,
        normal_forms_unified g.declarations g.equations known.kinded s h.kept.unifier.0.0 confluent cover.by pairs normal.forms v.terms normal.steps kinds h.kept.unifier.1
            ((known.lists.members normal.steps (map (apply s) (plain_sides pairs)) normal.forms).0 normal.reached)
            ((known.rewriting.lists normal.forms).0 normal.irreducible)
            cover.same_terms,
      )

      values_irreducible : (x : Var) → Contains vars x → IsIrreducible g.declarations g.equations (apply cover.by (substitution v.subst x))
      values_irreducible x m =
          known.sequences.irreducible (s x) (apply cover.by (substitution v.subst x)) (cover.same_values x (to_variant x m)) (h.values x (to_problem x m))

      same_fixed : (t : Term) → Contains g.fixed t → BEqual g.declarations (apply s t) (apply cover.by (apply (substitution v.subst) t))
      same_fixed t m =
          subst (BEqual g.declarations (apply s t)) (sym (apply-apply (substitution v.subst) cover.by t))
          (equal_by_agreement g.declarations s (followed_by (substitution v.subst) cover.by) t (λ x o. cover.same_values x (to_variant x (over t m x o))))

      fixed_stay : (t : Term) → Contains g.fixed t → IsIrreducible g.declarations g.equations (apply cover.by (apply (substitution v.subst) t))
      fixed_stay t m =
          known.sequences.irreducible (apply s t) (apply cover.by (apply (substitution v.subst) t)) (same_fixed t m)
          (All-contains (λ u. IsIrreducible g.declarations g.equations (apply s u)) g.fixed t h.kept.stay m)

      pub found_above : (found : List Variant) → AreWholeFor g vars v found → Any (λ u. IsInstance g.declarations (variables_of (plain_pairs pairs)) s (substitution u.subst)) found
      found_above found whole =
          let w = whole cover.by unified values_irreducible fixed_stay in (
            w.0,
            w.1,
            w.2,
            w.3,
            record {
              after = w.4.after;
              well_sorted = w.4.well_sorted;
              equal = λ x m. let n = from_problem x m in BEqual-trans g.declarations (cover.same_values x (to_variant x n)) (w.4.equal x n);
            },
          )
