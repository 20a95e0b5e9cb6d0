-- Two terms that one term is brought to, and that have no form in common.
use Rattle.std.specs.Prelude.{◌≡◌, ◌+◌, ℕ, List, [], ◌∷◌, Some, slice_get}
use Rattle.fvn_terms.specs.declared.declarations.Declarations.{Declarations}
use Rattle.fvn_terms.specs.Term.{Term}
use Rattle.fvn_terms.specs.Signature.{IsTerm}
use Rattle.fvn_terms.specs.Equality.{BEqual}
use Rattle.fvn_terms.specs.Rewriting.{Rewrites, TermSequence, IsIrreducible}
use Rattle.fvn_theory.specs.declared.equation.Equation.{Equation}
use Rattle.fvn_theory.specs.Equations.{sides_of, equations_of}

module _ (d : Declarations) (equations : List Equation) where
  -- one step by the equation with this number, from 1, leads from the first term to the second
  pub record StepsBy (number : ℕ) (t u : Term) : Type 0 where
    pub before : ℕ
    pub number_is : number ≡ before + 1
    pub equation : Equation
    pub is : slice_get equations before ≡ Some equation
    pub step : Rewrites d (sides_of equation ∷ []) t u

  -- a step by this equation and then others lead from the first term to the second
  pub record LeadsBy (number : ℕ) (t u : Term) : Type 0 where
    pub next : Term
    pub first : StepsBy number t next
    pub count : ℕ
    pub rest : TermSequence d (equations_of equations) count next u

  -- Sequences from one term, the first of which begins with a step by equation m, and the second with one by equation n,
  -- lead to irreducible terms that are not equal modulo the axioms.
  pub record Diverge (m n : ℕ) (t u : Term) : Type 0 where
    pub start : Term
    pub kinded : IsTerm d start
    pub first : LeadsBy m start t
    pub second : LeadsBy n start u
    pub first_ends : IsIrreducible d (equations_of equations) t
    pub second_ends : IsIrreducible d (equations_of equations) u
    pub apart : BEqual d t u → ⊥
