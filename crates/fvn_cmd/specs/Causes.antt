-- Why a search ends at a bound of the solver, whichever problems it gives to the solver.
use Rattle.std.specs.Prelude.{◌≡◌, List, length, All}
use Rattle.fvn_base.specs.declared.limits.TheConstants.{TERM_SYMBOLS, UNIFIERS}
use Rattle.fvn_terms.specs.declared.plain.OpId.{OpId}
use Rattle.fvn_terms.specs.declared.declarations.Declarations.{Declarations}
use Rattle.fvn_terms.specs.Substitution.{Substitution}
use Rattle.fvn_terms.specs.Unifiers.{IsUnifier}
use Rattle.fvn_lindio.specs.declared.system.System.{System}
use Rattle.fvn_flat.specs.Drawn.{IsDrawn}
use Rattle.fvn_flat.specs.OneAnswer.{IsApartFor}
use Rattle.fvn_flat.specs.Solving.{IsBasisCause, IsSizeCause, problem_of}
use Rattle.fvn_flat.specs.declared.solver.Pairs.{Pairs}
use Rattle.fvn_flat.specs.declared.solver.SizeCause.{SizeCause}

module _ (d : Declarations) (IsGiven : Pairs → Type 0) where
  -- f has a sum system of a problem that is given, under a partition, that has too many or too large minimal solutions
  pub record HasNoBasis (f : OpId) : Type 0 where
    pub given : Pairs
    pub is_given : IsGiven given
    pub system : System
    pub cause : IsBasisCause d given f system

  -- a problem that is given, or what a solved list of it unfolds to at one of its variables, has too many symbols
  pub record IsTooLarge : Type 0 where
    pub given : Pairs
    pub is_given : IsGiven given
    pub cause : SizeCause
    pub large : IsSizeCause d given TERM_SYMBOLS cause

  -- as many unifiers of a problem that is given are kept as may be, each of which may be drawn, none an instance of another
  pub record HasTooMany : Type 0 where
    pub given : Pairs
    pub is_given : IsGiven given
    pub kept : List Substitution
    pub sound : All (IsUnifier d (problem_of given)) kept
    pub drawn : All (IsDrawn d (problem_of given)) kept
    pub apart : IsApartFor d (problem_of given) kept
    pub count : length kept ≡ UNIFIERS

  -- no bound is met: nothing is too large, every operator has a basis, and there are not too many unifiers
  pub record MeetsNoBound : Type 0 where
    pub small : IsTooLarge → ⊥
    pub basis : (f : OpId) → HasNoBasis f → ⊥
    pub few : HasTooMany → ⊥
