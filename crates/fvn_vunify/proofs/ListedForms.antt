-- The variables that are listed for forms are those that occur in them.
use Rattle.std.proofs.Common.{◌≡◌, ◌⊎◌, Bool, true, false, List, [], ◌∷◌, ◌++◌, map, sym, subst, inl, inr}
use Rattle.std.specs.Prelude.{if◌then◌else◌, All, Contains}
use Rattle.std.proofs.lemmas.List.Elements.{All-weaker, All-contains_itself, Contains-push_cases}
use Rattle.fvn_base.proofs.Membership.{contains_none, map_contains}
use Rattle.fvn_terms.specs.declared.plain.Var.{Var}
use Rattle.fvn_terms.specs.declared.declarations.Declarations.{Declarations}
use Rattle.fvn_terms.specs.Substitution.{Occurs, OccursAmong}
use Rattle.fvn_terms.specs.Signature.{IsSort}
use Rattle.fvn_terms.specs.Variants.{OccursInSome}
use Rattle.fvn_forms.specs.Flat.{FlatTerm, FlatTerms, fvar, fapp, fnone, fmore, fpack, plain, plain_all}
use Rattle.fvn_flat.specs.Fits.{AllFit}
use Rattle.fvn_flat.specs.Variables.{listed, with_variable, with_variables, with_all_variables}
use Rattle.fvn_flat.proofs.Occurrences.{occurs_in_app}
use Rattle.fvn_rewrite_laws.proofs.Choosing.{occurring_sort}
use Rattle.fvn_rewrite_laws.proofs.Listing.{var_listed}
use Rattle.fvn_cover.proofs.Leftovers.{any_contains}
use Rattle.fvn_vunify.specs.inner.OneForms.{variables_of_forms}
use Rattle.fvn_vunify.proofs.NewNames.{each_listed}

one_more : (vars : List Var) (y x : Var) → Contains (with_variable vars y) x → Contains vars x ⊎ (x ≡ y)
one_more vars y x h = go (listed vars y) h where
  go : (b : Bool) → Contains (if b then vars else vars ++ y ∷ []) x → Contains vars x ⊎ (x ≡ y)
  go true c = inl c
  go false c = elim (Contains-push_cases vars y x c) as (λ _. Contains vars x ⊎ (x ≡ y)) [ inl i ↦ inl i | inr e ↦ inr (sym e) ]

mutual
  listed_occurs : (t : FlatTerm) (vars : List Var) (x : Var) → Contains (with_variables t vars) x → Contains vars x ⊎ Occurs x (plain t)
  listed_occurs (fvar y) vars x h = one_more vars y x h
  listed_occurs (fapp f joined ts) vars x h =
      elim (listed_among ts vars x h) as (λ _. Contains vars x ⊎ Occurs x (plain (fapp f joined ts))) [ inl i ↦ inl i | inr o ↦ inr ((occurs_in_app x f joined ts).1 o) ]

  listed_among : (ts : FlatTerms) (vars : List Var) (x : Var) → Contains (with_all_variables ts vars) x → Contains vars x ⊎ OccursAmong x (plain_all ts)
  listed_among fnone vars x h = inl h
  listed_among (fmore t ts) vars x h = elim (listed_among ts (with_variables t vars) x h) as (λ _. Contains vars x ⊎ OccursAmong x (plain_all (fmore t ts))) [
    | inl i ↦ elim (listed_occurs t vars x i) as (λ _. Contains vars x ⊎ OccursAmong x (plain_all (fmore t ts))) [ inl j ↦ inl j | inr o ↦ inr (inl o) ]
    | inr o ↦ inr (inr o)
  ]

-- where the forms fit, what occurs among them has a sort of the signature
occurring_among : (d : Declarations) (ts : List FlatTerm) → AllFit d ts → (x : Var) → OccursAmong x (plain_all (fpack ts)) → IsSort d x.sort
occurring_among d [] h x o = absurd o
occurring_among d (t ∷ ts) h x (inl o) = occurring_sort d x (plain t) h.0.kinded.0 h.0.kinded.1 o
occurring_among d (t ∷ ts) h x (inr o) = occurring_among d ts h.1 x o

-- so have the variables that are listed
pub listed_sorts : (d : Declarations) (ts : List FlatTerm) → AllFit d ts → All (λ (x : Var). IsSort d x.sort) (variables_of_forms ts)
listed_sorts d ts h = All-weaker (Contains (variables_of_forms ts)) (λ (x : Var). IsSort d x.sort) one (variables_of_forms ts) (All-contains_itself (variables_of_forms ts)) where
  one : (x : Var) → Contains (variables_of_forms ts) x → IsSort d x.sort
  one x m = elim (listed_among (fpack ts) [] x m) as (λ _. IsSort d x.sort) [
    | inl i ↦ absurd (contains_none x i)
    | inr o ↦ occurring_among d ts h x o
  ]

-- what occurs in one of the forms is listed
pub occurring_listed : (ts : List FlatTerm) (x : Var) → OccursInSome x (map plain ts) → Contains (variables_of_forms ts) x
occurring_listed ts x o =
    let w = any_contains (Occurs x) (map plain ts) o in
    let u = map_contains plain ts w.0 w.1.0 in
    var_listed (variables_of_forms ts) x (each_listed ts [] u.0 u.1.0 x (subst (Occurs x) (sym u.1.1) w.1.1))
