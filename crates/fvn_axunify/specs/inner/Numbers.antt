-- Numbers above those of variables.
use Rattle.std.specs.Prelude.{◌≡◌, ◌⊎◌, ◌+◌, ◌≤◌, ◌<◌, ℕ, List, All, Any}
use Rattle.fvn_base.specs.declared.limits.TheConstants.{NEXT_FRESH}
use Rattle.fvn_terms.specs.declared.plain.Var.{Var}
use Rattle.fvn_flat.specs.Bindings.{Bindings}
use Rattle.fvn_refine.specs.Refinements.{variables_of_terms}
use Rattle.fvn_axunify.specs.Exact.{IsJustAbove}

-- their numbers are below this
abbrev pub AreBelow : ℕ → List Var → Type 0
AreBelow n vars = All (λ y. y.name < n) vars

-- from low on, above the numbers of all of them and just above that of one, if it is not low
pub record IsAbove (low : ℕ) (vars : List Var) (n : ℕ) : Type 0 where
  pub from : low ≤ n
  pub small : n ≤ NEXT_FRESH
  pub below : AreBelow n vars
  pub just : (n ≡ low) ⊎ Any (λ y. n ≡ y.name + 1) vars

-- the same of all variables in the values of some substitutions
pub record IsAboveAll (first : ℕ) (unifiers : List Bindings) (n : ℕ) : Type 0 where
  pub from : first ≤ n
  pub small : n ≤ NEXT_FRESH
  pub below : All (λ s. AreBelow n (variables_of_terms s)) unifiers
  pub just : IsJustAbove first unifiers n
