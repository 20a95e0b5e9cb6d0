-- Refinements of a substitution: its variables are given sorts at which the listed variables go to terms of their sorts.
-- J. Meseguer, J. A. Goguen and G. Smolka, Order-sorted unification, 1989.
use Rattle.std.specs.Prelude.{◌≡◌, ℕ, List, [], map, All, Any, AllPairs, Contains, IsSome}
use Rattle.std.specs.List.{AllZip}
use Rattle.std.specs.Option.{option_map}
use Rattle.fvn_base.specs.Order.{IsBefore}
use Rattle.fvn_terms.specs.declared.plain.Var.{Var}
use Rattle.fvn_terms.specs.declared.plain.SortId.{SortId}
use Rattle.fvn_terms.specs.declared.declarations.Declarations.{Declarations}
use Rattle.fvn_terms.specs.Substitution.{Substitution, apply}
use Rattle.fvn_terms.specs.Signature.{kind, IsSort, AtOrBelow, KeepsKinds}
use Rattle.fvn_terms.specs.Equality.{BEqual}
use Rattle.fvn_terms.specs.Sorts.{HasSort}
use Rattle.fvn_forms.specs.Flat.{fvar, fpack}
use Rattle.fvn_forms.specs.Canon.{canon, inst}
use Rattle.fvn_forms.specs.LeastSort.{sort_in, least_sort}
use Rattle.fvn_flat.specs.Bindings.{Bindings, bound, value}
use Rattle.fvn_flat.specs.Variables.{with_all_variables}
use Rattle.fvn_flat.specs.Drawn.{OccursInValues, IsWay, IsMaximalWay}
use Rattle.fvn_flat.specs.Solving.{substitution}

-- a sort for each variable
abbrev pub Way : Type 0
Way = Var → SortId

-- the variable with the sort that the way gives it
abbrev pub at_sort : Way → Var → Var
at_sort way y = record { name = y.name; sort = way y; fresh = y.fresh }

-- the variables of the terms to which s binds, in order of first occurrence
abbrev pub variables_of_terms : Bindings → List Var
variables_of_terms s = with_all_variables (fpack (map (λ p. p.1) s)) []

-- the numbers of the sorts of these variables
abbrev pub sort_numbers : List Var → Way → List ℕ
sort_numbers ys way = map (λ y. (way y).0) ys

module _ (d : Declarations) where
  -- r binds what s binds, to the same terms with their variables at the sorts of the way
  abbrev pub IsAtSorts : Bindings → Way → Bindings → Type 0
  IsAtSorts s way r = (x : Var) → bound r x ≡ option_map (inst d (λ y. fvar (at_sort way y))) (bound s x)

  module _ (vars : List Var) (s : Bindings) where
    -- each of these variables is bound, and has a sort of the signature
    abbrev pub AreBound : Type 0
    AreBound = All (λ x. IsSort d x.sort × IsSome (bound s x)) vars

    -- the variables in the values of these have kinds as their sorts
    abbrev pub HaveKindsAsSorts : Type 0
    HaveKindsAsSorts = (y : Var) → OccursInValues vars (substitution s) y → kind d y.sort ≡ y.sort

    -- no sorts for the variables in the values of these fit
    abbrev pub HasNoWay : Type 0
    HasNoWay = (way : Way) → IsWay d vars (substitution s) way → ⊥

    -- the variables in the values have sorts at or below those of the other way
    abbrev pub IsBelowWay : Way → Way → Type 0
    IsBelowWay way other = (y : Var) → OccursInValues vars (substitution s) y → AtOrBelow d (way y) (other y)

    -- the way is maximal; a variable that is in no value of these has its kind
    pub record IsLargest (way : Way) : Type 0 where
      pub maximal : IsMaximalWay d vars (substitution s) way
      pub others : (y : Var) → (OccursInValues vars (substitution s) y → ⊥) → way y ≡ kind d y.sort

    -- each value has the sort of its variable
    abbrev pub HaveTheirSorts : Type 0
    HaveTheirSorts = (x : Var) → Contains vars x → HasSort d (substitution s x) x.sort

    -- the substitutions are s at the sorts of each maximal way, once for each
    pub record AreRefinements (rs : List Bindings) : Type 0 where
      -- one way for each substitution
      pub ways : List Way
      pub given : AllZip (IsAtSorts s) ways rs
      -- each is maximal
      pub largest : All IsLargest ways
      -- every way is at or below one of them, so that each maximal one is listed
      pub above : (way : Way) → IsWay d vars (substitution s) way → Any (IsBelowWay way) ways
      -- by the numbers of the sorts of the variables in order of first occurrence, so that each is listed once
      pub in_order : AllPairs (λ v w. IsBefore (sort_numbers (variables_of_terms s) v) (sort_numbers (variables_of_terms s) w)) ways

    -- modulo the axioms u is s and then another substitution that keeps kinds; where a value of u is of its variable's sort, so is that of s,
    -- as soon as each variable has the least sort of what it becomes
    pub record IsCoveredOnKinds (u : Substitution) : Type 0 where
      pub later : Substitution
      pub keeps : KeepsKinds d later
      pub equal : (x : Var) → Contains vars x → BEqual d (u x) (apply later (substitution s x))
      pub sorts : (x : Var) → Contains vars x → AtOrBelow d (least_sort d (canon d (u x))) x.sort
          → AtOrBelow d (sort_in d (λ y. least_sort d (canon d (later y))) (value s x)) x.sort
