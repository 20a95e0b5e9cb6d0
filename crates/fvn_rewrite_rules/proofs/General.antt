-- A rule that has another as an instance.
use Rattle.std.proofs.Common.{◌≡◌, refl, sym, ◌∙◌, subst}
use Rattle.fvn_terms.specs.declared.plain.Var.{Var}
use Rattle.fvn_terms.specs.declared.declarations.Declarations.{Declarations}
use Rattle.fvn_terms.specs.Term.{var}
use Rattle.fvn_terms.specs.Substitution.{apply, followed_by}
use Rattle.fvn_terms.specs.Signature.{kind, IsSort, same}
use Rattle.fvn_terms.specs.Places.{stop}
use Rattle.fvn_terms.specs.Equality.{BEqual}
use Rattle.fvn_terms.specs.Sorts.{IsWellSorted}
use Rattle.fvn_terms.proofs.Substitutions.{apply-apply, apply-var}
use Rattle.fvn_terms.proofs.Equal.{BEqual-apply, BEqual-trans}
use Rattle.fvn_terms.proofs.WellSorted.{IsWellSorted-followed_by}
use Rattle.fvn_forms.specs.Flat.{FlatTerm, plain}
use Rattle.fvn_flat.specs.Drawn.{Renaming}
use Rattle.fvn_rewrite_rules.specs.declared.rule.Rule.{Rule}
use Rattle.fvn_rewrite_rules.specs.Given.{HasInstance}

module _ (d : Declarations) where
  -- variables of the same sorts make a well-sorted substitution
  pub renaming_sorted : (by : Renaming) → ((x : Var) → (by x).sort ≡ x.sort) → IsWellSorted d (λ x. var (by x))
  renaming_sorted by sorts = (
    λ x i. (subst (IsSort d) (sym (sorts x)) i, (λ j. kind d (sorts x j))),
    λ x. record { form = var (by x); equal = stop; gets = record { sort = x.sort; gets = sorts x; below = same } },
  )

  -- a rule has itself as an instance
  pub HasInstance-of : (rule : Rule) (l : FlatTerm) → rule.left ≡ l → HasInstance d rule l
  HasInstance-of rule l e = record { by = var; well_sorted = renaming_sorted (λ x. x) (λ x. refl); left = itself rule.left l e }
    where
      itself : (t u : FlatTerm) → t ≡ u → BEqual d (apply var (plain t)) (plain u)
      itself t u q = subst (λ v. BEqual d v (plain u)) (sym (apply-var (plain t) ∙ (λ i. plain (q i)))) stop

  -- what is an instance of an instance
  pub HasInstance-trans : (a b : Rule) (l : FlatTerm) → HasInstance d a b.left → HasInstance d b l → HasInstance d a l
  HasInstance-trans a b l g h = record {
    by = followed_by g.by h.by;
    well_sorted = IsWellSorted-followed_by d g.by h.by g.well_sorted h.well_sorted;
    left = subst (λ t. BEqual d t (plain l)) (apply-apply g.by h.by (plain a.left)) (BEqual-trans d (BEqual-apply d h.by h.well_sorted.0 g.left) h.left);
  }
