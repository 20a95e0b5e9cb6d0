-- What is asked of plain pairs that a solver is to solve, and what an answer to them is.
use Rattle.std.specs.Prelude.{◌≡◌, ◌≤◌, ◌<◌, ℕ, true, List, All, Contains}
use Rattle.fvn_terms.specs.declared.plain.Var.{Var}
use Rattle.fvn_terms.specs.declared.declarations.Declarations.{Declarations}
use Rattle.fvn_terms.specs.Substitution.{Substitution}
use Rattle.fvn_terms.specs.Unifiers.{Problem, IsUnifier}
use Rattle.fvn_flat.specs.Problems.{variables_of}
use Rattle.fvn_flat.specs.OneAnswer.{IsCompleteFor, IsApartFor}
use Rattle.fvn_base.specs.declared.limits.TheConstants.{FIRST_FRESH}

-- the fresh variables of the problem have numbers below first, which is a number that a solver takes
pub record HasRoom (problem : Problem) (first : ℕ) : Type 0 where
  pub numbers : (x : Var) → Contains (variables_of problem) x → x.fresh ≡ true → x.name < first
  pub small : first ≤ FIRST_FRESH

-- these are unifiers of the problem, none an instance of another; where they are said to be all, every unifier is an instance of one
pub record IsAnswerTo (d : Declarations) (problem : Problem) (unifiers : List Substitution) (AreAll : Type 0) : Type 0 where
  pub sound : All (IsUnifier d problem) unifiers
  pub apart : IsApartFor d problem unifiers
  pub complete : AreAll → IsCompleteFor d problem unifiers
