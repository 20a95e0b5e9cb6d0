-- Variants of no terms may be expanded, and any start explored, where no terms are fixed.
use Rattle.std.proofs.Common.{◌≡◌, ◌⊎◌, List, [], map, get_or, sym, subst, inl, inr, arith}
use Rattle.std.specs.Prelude.{All, AllPairs, Any, Contains}
use Rattle.std.proofs.lemmas.List.Elements.{All-nil, All-contains, Contains-get_or}
use Rattle.fvn_base.specs.declared.limits.TheConstants.{EXPANDED_FRESH}
use Rattle.fvn_base.proofs.Membership.{contains_none}
use Rattle.fvn_terms.specs.declared.plain.Var.{Var}
use Rattle.fvn_terms.specs.Signature.{IsSort}
use Rattle.fvn_terms.specs.Substitution.{Occurs}
use Rattle.fvn_terms.specs.Rewriting.{IsIrreducible}
use Rattle.fvn_terms.specs.Variants.{OccursInSome}
use Rattle.fvn_forms.specs.Flat.{FlatTerm, plain}
use Rattle.fvn_flat.specs.Drawn.{OccursInValues}
use Rattle.fvn_flat.specs.Fits.{AllFit}
use Rattle.fvn_flat.specs.Solving.{substitution}
use Rattle.fvn_cover.specs.declared.variant.Variant.{Variant}
use Rattle.fvn_exploring.specs.Setting.{Setting}
use Rattle.fvn_exploring.specs.Expansions.{IsExpandable}
use Rattle.fvn_fold.specs.Levels.{AreExpandable}
use Rattle.fvn_fold.specs.Starts.{AreFixedFor}
use Rattle.fvn_tests_folding.specs.Nothing.{IsOfNothing, FixesNothing}

no_term : (y : Var) (ts : List FlatTerm) → ts ≡ [] → Any (λ t. Occurs y (plain t)) ts → ⊥
no_term y ts e h = contains_none h.1 (subst (λ l. Contains l h.1) e (h.0, h.2, h.3))

no_pairs : (vars : List Var) → vars ≡ [] → AllPairs (λ (x y : Var). x ≡ y → ⊥) vars
no_pairs vars e = subst (AllPairs (λ (x y : Var). x ≡ y → ⊥)) (sym e) (λ i j d l m. absurd (omega (arith, m)))

-- one of them
pub nothing_expandable : (g : Setting) → FixesNothing g → (v : Variant) → IsOfNothing v → IsExpandable g EXPANDED_FRESH v
nothing_expandable g none v h = record {
  flat = record { terms = subst (AllFit g.declarations) (sym h.terms) tt; values = h.values g.declarations; vars = subst (All (λ (x : Var). IsSort g.declarations x.sort)) (sym h.vars) (All-nil (λ (x : Var). IsSort g.declarations x.sort)) };
  holds = λ y o. absurd (no_term y v.terms h.terms o);
  once = no_pairs v.vars h.vars;
  numbers = λ y o f. absurd (neither y o);
  fixed = subst (All (λ t. (y : Var) → Occurs y t → Contains v.vars y)) (sym none) (All-nil (λ t. (y : Var) → Occurs y t → Contains v.vars y));
} where
  neither : (y : Var) → Any (λ t. Occurs y (plain t)) v.terms ⊎ OccursInValues v.vars (substitution v.subst) y → ⊥
  neither y (inl o) = no_term y v.terms h.terms o
  neither y (inr o) = contains_none o.0 (subst (λ l. Contains l o.0) h.vars o.1)

-- a list of them
pub all_expandable : (g : Setting) → FixesNothing g → (list : List Variant) → All IsOfNothing list → AreExpandable g list
all_expandable g none list h k e l = nothing_expandable g none (get_or list k e) (All-contains IsOfNothing list (get_or list k e) h (Contains-get_or list k e l))

-- any start may be explored
pub any_start : (g : Setting) → FixesNothing g → (start : List FlatTerm) → AreFixedFor g start
any_start g none start = record {
  over = subst (All (λ t. (y : Var) → Occurs y t → OccursInSome y (map plain start))) (sym none) (All-nil (λ t. (y : Var) → Occurs y t → OccursInSome y (map plain start)));
  irreducible = subst (All (IsIrreducible g.declarations g.equations)) (sym none) (All-nil (IsIrreducible g.declarations g.equations));
}
