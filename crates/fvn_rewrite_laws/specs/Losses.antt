-- Equations that lose a sort.
use Rattle.std.specs.Prelude.{◌≡◌, ◌+◌, ℕ, ◌∷◌, ◌++◌, length, Contains}
use Rattle.fvn_terms.specs.declared.plain.SortId.{SortId}
use Rattle.fvn_terms.specs.declared.declarations.Declarations.{Declarations}
use Rattle.fvn_terms.specs.Term.{Term}
use Rattle.fvn_terms.specs.Substitution.{Substitution, apply}
use Rattle.fvn_terms.specs.Sorts.{HasSort, IsWellSorted}
use Rattle.fvn_terms.specs.Theory.{Equations}
use Rattle.fvn_terms.specs.Rewriting.{IsSortDecreasing}

module _ (d : Declarations) where
  -- a well-sorted instance of the left side has a sort that the same instance of the right side has not
  pub record IsLoss (left right : Term) : Type 0 where
    pub by : Substitution
    pub well_sorted : IsWellSorted d by
    pub sort : SortId
    pub left_has : HasSort d (apply by left) sort
    pub right_has_not : HasSort d (apply by right) sort → ⊥

  -- each equation is sort-decreasing
  abbrev pub AreSortDecreasing : Equations → Type 0
  AreSortDecreasing equations = (equation : Term × Term) → Contains equations equation → IsSortDecreasing d equation.0 equation.1

  -- of the equations, numbered from 1, this is the first that loses a sort
  pub record IsFirstLoss (equations : Equations) (n : ℕ) : Type 0 where
    pub before : Equations
    pub equation : Term × Term
    pub after : Equations
    pub split : equations ≡ before ++ (equation ∷ after)
    pub number : n ≡ length before + 1
    pub earlier : AreSortDecreasing before
    pub loses : IsLoss equation.0 equation.1
