-- What one equation shows, and the first of several that does not fall.
use Rattle.std.specs.Prelude.{◌≡◌, ◌<◌, ℕ, List, Some, slice_get}
use Rattle.fvn_terms.specs.declared.plain.OpId.{OpId}
use Rattle.fvn_terms.specs.declared.declarations.Declarations.{Declarations}
use Rattle.fvn_theory.specs.declared.equation.Equation.{Equation}
use Rattle.fvn_weights.specs.declared.comparing.Outcome.{Outcome}
use Rattle.fvn_weights.specs.declared.comparing.Outcome.TheVariants.{Falling, Big, Growing}
use Rattle.fvn_weights.specs.declared.fault.WeighFault.{WeighFault}
use Rattle.fvn_weights.specs.declared.fault.WeighFault.TheVariants.{Shape, TooBig, Grows, NoMemory as OutOfMemory}
use Rattle.fvn_weights.specs.Values.{Linear, Fits}
use Rattle.fvn_weights.specs.Weighing.{IsBig, IsGrowing, IsFalling, IsFirstOf}

module _ (w : Linear) where
  -- what an equation shows
  abbrev pub IsOutcome : Equation → Outcome → Type 0
  IsOutcome e Falling = IsFalling w e
  IsOutcome e Big = IsBig w e
  IsOutcome e Growing = (IsBig w e → ⊥) × IsGrowing w e

  -- why the equation with this number does not fall
  abbrev pub IsFaultOf : Equation → ℕ → WeighFault → Type 0
  IsFaultOf e number (Shape f) = ⊥
  IsFaultOf e number (TooBig n) = (n ≡ number) × IsBig w e
  IsFaultOf e number (Grows n) = (n ≡ number) × ((IsBig w e → ⊥) × IsGrowing w e)
  IsFaultOf e number OutOfMemory = Unit {0}

  -- all equations fall
  abbrev pub AllFall : List Equation → Type 0
  AllFall equations = (i : ℕ) (e : Equation) → slice_get equations i ≡ Some e → IsFalling w e

  -- why not all equations fall
  abbrev pub IsEquationFault : List Equation → WeighFault → Type 0
  IsEquationFault equations (Shape f) = ⊥
  IsEquationFault equations (TooBig n) = IsFirstOf w equations (IsBig w) n
  IsEquationFault equations (Grows n) = IsFirstOf w equations (λ e. (IsBig w e → ⊥) × IsGrowing w e) n
  IsEquationFault equations OutOfMemory = Unit {0}

-- the first operator whose weight does not fit
abbrev pub IsFirstUnfit : Declarations → Linear → OpId → Type 0
IsFirstUnfit d w f = (Fits d w f → ⊥) × ((g : OpId) → g.0 < f.0 → Fits d w g)
