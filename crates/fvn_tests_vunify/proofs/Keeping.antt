-- What holds of expansions without fixed terms holds of those with some, where they have no child.
use Rattle.std.proofs.Common.{◌≡◌, ℕ, List, [], ◌∷◌, length, refl, sym, subst, arith}
use Rattle.std.specs.Prelude.{All, Contains}
use Rattle.std.proofs.lemmas.List.Elements.{All-nil}
use Rattle.fvn_base.proofs.Membership.{contains_none}
use Rattle.fvn_terms.specs.Term.{Term}
use Rattle.fvn_terms.specs.Substitution.{Substitution, apply}
use Rattle.fvn_terms.specs.Unifiers.{Problem}
use Rattle.fvn_terms.specs.Rewriting.{IsIrreducible}
use Rattle.fvn_terms.specs.declared.plain.Var.{Var}
use Rattle.fvn_terms.specs.Substitution.{Occurs}
use Rattle.fvn_flat.specs.Solving.{substitution}
use Rattle.fvn_cover.specs.declared.variant.Variant.{Variant}
use Rattle.fvn_exploring.specs.declared.ends.Expansion.{Expansion}
use Rattle.fvn_exploring.specs.declared.ends.ExpandEnd.TheVariants.{Whole}
use Rattle.fvn_exploring.specs.Setting.{Setting}
use Rattle.fvn_exploring.specs.Children.{IsChild}
use Rattle.fvn_exploring.specs.Expansions.{IsExpandable, IsWhole, IsExpandCause}
use Rattle.fvn_tests_vunify.specs.Settings.{fixing}

pub nothing_in : {A : Type 0} (xs : List A) → length xs ≡ 0 → xs ≡ []
nothing_in [] e = refl
nothing_in (x ∷ xs) e = absurd (omega (arith, e))

module _ (terms : List Term) (g : Setting) (none : g.fixed ≡ []) (v : Variant) where
  -- what may be expanded with fixed terms may be so without
  pub expandable_without : (first : ℕ) → IsExpandable (fixing terms g) first v → IsExpandable g first v
  expandable_without first h = record {
    flat = h.flat;
    holds = h.holds;
    once = h.once;
    numbers = h.numbers;
    fixed = subst (All (λ t. (y : Var) → Occurs y t → Contains v.vars y)) (sym none) (All-nil (λ t. (y : Var) → Occurs y t → Contains v.vars y));
  }

  -- where nothing lifts without fixed terms, nothing does with some
  module _ (e : Expansion) (no_child : e.children ≡ []) where
    pub whole_with : IsWhole g v e → IsWhole (fixing terms g) v e
    whole_with h whole s keeps us step =
        let lifted = h whole s record {
          well_sorted = keeps.well_sorted;
          values = keeps.values;
          stay = subst (All (λ t. IsIrreducible g.declarations g.equations (apply s (apply (substitution v.subst) t)))) (sym none)
              (All-nil (λ t. IsIrreducible g.declarations g.equations (apply s (apply (substitution v.subst) t))));
        } us step in
        absurd (contains_none lifted.0 (subst (λ l. Contains l lifted.0) no_child lifted.1))

    pub children_with : (drawn : Problem → Substitution → Type 0) → All (IsChild (fixing terms g) drawn v) e.children
    children_with drawn = subst (All (IsChild (fixing terms g) drawn v)) (sym no_child) (All-nil (IsChild (fixing terms g) drawn v))

    pub cause_with : (drawn : Problem → Substitution → Type 0) → e.end ≡ Whole → IsExpandCause (fixing terms g) drawn v e.end
    cause_with drawn is = subst (IsExpandCause (fixing terms g) drawn v) (sym is) tt
