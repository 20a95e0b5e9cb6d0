-- What is promised of equations.
use Rattle.std.specs.Prelude.{◌≡◌, ◌≤◌, ◌-◌, ℕ, Bool, true, false, List, length, Option, Some, None, slice_get}
use Rattle.fvn_terms.specs.declared.declarations.Declarations.{Declarations}
use Rattle.fvn_terms.specs.Term.{Term}
use Rattle.fvn_terms.specs.Rewriting.{IsSortDecreasing}
use Rattle.fvn_rewrite_laws.specs.Collapses.{CollapsesToVariable, CollapsesToIdentity}
use Rattle.fvn_rewrite_laws.specs.Losses.{IsLoss}
use Rattle.fvn_theory.specs.declared.equation.Equation.{Equation}
use Rattle.fvn_cohere.specs.declared.collapsing.Collapse.{Collapse}
use Rattle.fvn_cohere.specs.declared.collapsing.Collapse.TheVariants.{Variable, Identity}

-- there is an equation of this number, from 1
pub record IsNumberIn (equations : List Equation) (number : ℕ) : Type 0 where
  pub from_one : 1 ≤ number
  pub listed : number ≤ length equations

-- what is said of the equation of this number
abbrev pub OfEquation : List Equation → ℕ → (Equation → Type 0) → Type 0
OfEquation equations number P = (e : Equation) → slice_get equations (number - 1) ≡ Some e → P e

module _ (d : Declarations) where
  -- the term collapses to a variable, or else to an identity, or to neither
  abbrev pub CollapsesAs : Term → Option Collapse → Type 0
  CollapsesAs t (Some Variable) = CollapsesToVariable d t
  CollapsesAs t (Some Identity) = (CollapsesToVariable d t → ⊥) × CollapsesToIdentity d t
  CollapsesAs t None = (CollapsesToVariable d t → ⊥) × (CollapsesToIdentity d t → ⊥)

  -- where it is told so, an instance loses a sort; else the equation is sort-decreasing
  abbrev pub LosesAs : Term → Term → Bool → Type 0
  LosesAs left right true = IsLoss d left right
  LosesAs left right false = IsSortDecreasing d left right
