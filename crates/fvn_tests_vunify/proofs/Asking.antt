-- What is known of terms that may be fixed.
use Rattle.std.proofs.Common.{◌≡◌, ◌<◌, ◌≤◌, ◌+◌, ℕ, List, [], ◌∷◌, length, map, get_or, take, refl, sym, ap, ◌∙◌, subst, arith, inl, inr, Some}
use Rattle.std.specs.Prelude.{All, Contains, slice_get}
use Rattle.std.proofs.lemmas.List.{take_more}
use Rattle.std.proofs.lemmas.List.Elements.{All-map, All-push, All-weaker}
use Rattle.fvn_base.proofs.Membership.{contains_map, contains_here, contains_none, contains_cases}
use Rattle.fvn_terms.specs.declared.plain.Var.{Var}
use Rattle.fvn_terms.specs.Term.{Term}
use Rattle.fvn_terms.specs.Substitution.{Occurs}
use Rattle.fvn_terms.specs.Unifiers.{Problem}
use Rattle.fvn_terms.specs.Substitution.{Substitution}
use Rattle.fvn_terms.specs.Rewriting.{IsIrreducible}
use Rattle.fvn_terms.specs.Variants.{OccursInSome}
use Rattle.fvn_forms.specs.Flat.{FlatTerm, fvar, plain}
use Rattle.fvn_flat.specs.Problems.{plain_pairs, IsProblem}
use Rattle.fvn_flat.specs.Solving.{FlatPairs}
use Rattle.fvn_flat.specs.Variables.{with_variables}
use Rattle.fvn_flat.proofs.ListedVariables.{occurring_listed}
use Rattle.fvn_rewrite_laws.proofs.Listing.{var_listed}
use Rattle.fvn_cover.proofs.Leftovers.{any_of}
use Rattle.fvn_exploring.specs.declared.limits.Limits.{Limits}
use Rattle.fvn_exploring.specs.declared.ends.Explored.{Explored}
use Rattle.fvn_exploring.specs.Setting.{Setting}
use Rattle.fvn_exploring.specs.Explorations.{IsExploration}
use Rattle.fvn_vunify.specs.Sides.{sides_in_turn}
use Rattle.fvn_vunify.specs.Solved.{IsOfSomePairs}
use Rattle.fvn_tests_vunify.specs.Asked.{IsOver, IsFixable, MayBeExplored}

-- the one variable of a list of one
pub only_one : (vars : List Var) (first : FlatTerm) (e : Var) → length vars ≡ 1 → first ≡ fvar (get_or vars 0 e) → (y : Var) → Contains vars y → first ≡ fvar y
only_one [] first e l is y m = absurd (contains_none y m)
only_one (z ∷ []) first e l is y m = elim (contains_cases z [] y m) as (λ _. first ≡ fvar y) [ inl q ↦ is ∙ ap fvar q | inr i ↦ absurd (contains_none y i) ]
only_one (z ∷ w ∷ vars) first e l is y m = absurd (omega (arith, l))

-- the form is the one variable of the other
pub over_one : (first t : FlatTerm) (vars : List Var) → vars ≡ with_variables t [] → ((y : Var) → Contains vars y → first ≡ fvar y) → IsOver first t
over_one first t vars listed only y o =
    only y (subst (λ l. Contains l y) (sym listed) (var_listed (with_variables t []) y (occurring_listed t [] y o)))

-- the first of some forms
pub first_listed : (start : List FlatTerm) (first : FlatTerm) → slice_get start 0 ≡ Some first → Contains start first × (1 ≤ length start)
first_listed [] first e = cc
first_listed (t ∷ start) first e = let same : t ≡ first = cc in (subst (Contains (t ∷ start)) same (contains_here t start), omega arith)

-- one more that may be fixed
pub fixable_more : (P : FlatTerm → Type 0) (terms : List FlatTerm) (i : ℕ) (t : FlatTerm) → i < length terms → t ≡ get_or terms i t → P t → All P (take i terms) → All P (take (i + 1) terms)
fixable_more P terms i t l is one h = subst (All P) (sym (take_more terms i t l)) (All-push P (take i terms) (get_or terms i t) h (subst P is one))

module _ (g : Setting) (start : List FlatTerm) (first : FlatTerm) (listed : Contains start first) (terms : List FlatTerm) (is : map plain terms ≡ g.fixed) where
  abbrev Over : Term → Type 0
  Over t = (y : Var) → Occurs y t → OccursInSome y (map plain start)

  over : (t : FlatTerm) → IsFixable g first t → Over (plain t)
  over t h y o = any_of (Occurs y) (map plain start) (plain first) (contains_map plain start first listed) (subst (λ u. Occurs y (plain u)) (sym (h.over y o)) refl)

  -- terms that may be fixed are so
  pub may_be : 1 ≤ length start → All (IsFixable g first) terms → MayBeExplored g start
  may_be some h = record {
    some = some;
    fixed = record {
      over = subst (All Over) is (All-map Over plain terms (All-weaker (IsFixable g first) (λ t. Over (plain t)) over terms h));
      irreducible = subst (All (IsIrreducible g.declarations g.equations)) is
          (All-map (IsIrreducible g.declarations g.equations) plain terms (All-weaker (IsFixable g first) (λ t. IsIrreducible g.declarations g.equations (plain t)) (λ t k. k.irreducible) terms h));
    };
  }

-- the sides of the pairs were explored
pub of_pairs : (g : Setting) (drawn : Problem → Substitution → Type 0) (pairs : FlatPairs) (start : List FlatTerm) → start ≡ sides_in_turn pairs → (limits : Limits) (x : Explored) →
    IsProblem g.declarations (plain_pairs pairs) → IsExploration g drawn start limits x → IsOfSomePairs g drawn x
of_pairs g drawn pairs start is limits x kinds e = record {
  pairs = pairs;
  limits = limits;
  explored = record { kinds = kinds; exploration = subst (λ l. IsExploration g drawn l limits x) is e };
}
