-- What is promised of weighing: the first operator whose weight does not fit, or the first equation that does not fall.
use Rattle.std.specs.Prelude.{◌≡◌, ◌≤◌, ◌<◌, ◌⊎◌, ℕ, suc, Option, Some, None}
use Rattle.std.specs.Prelude.{List, [], length, slice_get, slice_index_or}
use Rattle.fvn_terms.specs.declared.plain.Var.{Var}
use Rattle.fvn_terms.specs.declared.plain.OpId.{OpId}
use Rattle.fvn_terms.specs.declared.declarations.Declarations.{Declarations}
use Rattle.fvn_terms.specs.Term.{Term}
use Rattle.fvn_terms.specs.Plain.{term}
use Rattle.fvn_theory.specs.declared.equation.Equation.{Equation}
use Rattle.fvn_weights.specs.declared.weights.Weight.{Weight}
use Rattle.fvn_weights.specs.declared.fault.WeighFault.{WeighFault}
use Rattle.fvn_weights.specs.declared.fault.WeighFault.TheVariants.{Shape, TooBig, Grows, NoMemory as OutOfMemory}
use Rattle.fvn_weights.specs.declared.limits.TheConstants.{MOST}
use Rattle.fvn_weights.specs.Values.{Linear, constant_of, factor_of, Fits}

-- there is a weight for each operator
abbrev pub AreWeightsOf : Declarations → List Weight → Type 0
AreWeightsOf d weights = length weights ≡ length d.ops

-- what the weight of an operator adds; nothing where there is none
abbrev pub constant_in : Option Weight → ℕ
constant_in None = 0
constant_in (Some w) = w.constant

-- by what it multiplies its arguments; nothing is said where there is none
abbrev pub coefficients_in : Option Weight → List ℕ
coefficients_in None = []
coefficients_in (Some w) = w.coefficients

-- by what it multiplies the argument at a place; by one where it does not say
abbrev pub coefficient_in : Option Weight → ℕ → ℕ
coefficient_in o i = slice_index_or (coefficients_in o) i 1

-- the weights of a list, by the numbers of operators
abbrev pub linear : List Weight → Linear
linear ws = record {
  constant = λ f. constant_in (slice_get ws f.0);
  coefficient = λ f. coefficient_in (slice_get ws f.0);
}

-- a number in the value of the term is too large to be compared
abbrev pub IsOver : Linear → Term → Type 0
IsOver w t = (MOST < constant_of w t) ⊎ ((x : Var) × (MOST < factor_of w x t))

-- a number of a side is too large
abbrev pub IsBig : Linear → Equation → Type 0
IsBig w e = IsOver w (term e.left) ⊎ IsOver w (term e.right)

-- the constant of the right side is at or above that of the left one, or a variable has a greater coefficient there
abbrev pub IsGrowing : Linear → Equation → Type 0
IsGrowing w e = (constant_of w (term e.left) ≤ constant_of w (term e.right))
    ⊎ ((x : Var) × (factor_of w x (term e.left) < factor_of w x (term e.right)))

-- no number is too large, and the equation does not grow
pub record IsFalling (w : Linear) (e : Equation) : Type 0 where
  pub small : IsBig w e → ⊥
  pub falls : IsGrowing w e → ⊥

-- the weights of all operators fit
abbrev pub AllFit : Declarations → Linear → Type 0
AllFit d w = (f : OpId) → Fits d w f

-- P holds of the equation with this number, from 1, and those before it fall
pub record IsFirstOf (w : Linear) (equations : List Equation) (P : Equation → Type 0) (number : ℕ) : Type 0 where
  pub before : ℕ
  pub number_is : number ≡ suc before
  pub equation : Equation
  pub is : slice_get equations before ≡ Some equation
  pub holds : P equation
  pub earlier : (i : ℕ) (e : Equation) → i < before → slice_get equations i ≡ Some e → IsFalling w e

-- where weights do not show termination, the first reason
abbrev pub IsWeighFault : Declarations → List Equation → Linear → WeighFault → Type 0
IsWeighFault d equations w (Shape f) = (Fits d w f → ⊥) × ((g : OpId) → g.0 < f.0 → Fits d w g)
IsWeighFault d equations w (TooBig n) = AllFit d w × IsFirstOf w equations (IsBig w) n
IsWeighFault d equations w (Grows n) = AllFit d w × IsFirstOf w equations (λ e. (IsBig w e → ⊥) × IsGrowing w e) n
IsWeighFault d equations w OutOfMemory = Unit {0}

-- all weights fit, and all equations fall
pub record AreWeighed (d : Declarations) (equations : List Equation) (w : Linear) : Type 0 where
  pub fit : AllFit d w
  pub fall : (i : ℕ) (e : Equation) → slice_get equations i ≡ Some e → IsFalling w e
