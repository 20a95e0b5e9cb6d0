-- Unifiers in the theory of equations whose values are irreducible.
-- S. Escobar, R. Sasse and J. Meseguer, Folding variant narrowing and optimal variant termination, 2012.
use Rattle.std.specs.Prelude.{List, All, Any, Contains}
use Rattle.fvn_terms.specs.declared.plain.Var.{Var}
use Rattle.fvn_terms.specs.Substitution.{Substitution, apply}
use Rattle.fvn_terms.specs.Unifiers.{Problem, IsInstance}
use Rattle.fvn_terms.specs.Theory.{IsTheoryUnifier, IsTheoryInstance}
use Rattle.fvn_terms.specs.Rewriting.{IsIrreducible}
use Rattle.fvn_terms.specs.CompleteSets.{IsCompleteSet}
use Rattle.fvn_flat.specs.Problems.{variables_of}
use Rattle.fvn_exploring.specs.Setting.{Setting}

module _ (g : Setting) (problem : Problem) where
  -- s makes the sides of each pair equal in the theory, and the fixed terms stay irreducible under it
  pub record IsKeptUnifier (s : Substitution) : Type 0 where
    pub unifier : IsTheoryUnifier g.declarations g.equations problem s
    pub stay : All (λ t. IsIrreducible g.declarations g.equations (apply s t)) g.fixed

  -- its values on the problem's variables are irreducible too
  pub record IsIrreducibleUnifier (s : Substitution) : Type 0 where
    pub kept : IsKeptUnifier s
    pub values : (x : Var) → Contains (variables_of problem) x → IsIrreducible g.declarations g.equations (s x)

  -- on the problem's variables, s is modulo the axioms an instance of one of the list
  abbrev pub IsInstanceOfSome : List Substitution → Substitution → Type 0
  IsInstanceOfSome list s = Any (IsInstance g.declarations (variables_of problem) s) list

  -- the same in the theory
  abbrev pub IsTheoryInstanceOfSome : List Substitution → Substitution → Type 0
  IsTheoryInstanceOfSome list s = Any (IsTheoryInstance g.declarations g.equations (variables_of problem) s) list

  -- these are irreducible unifiers, and each irreducible unifier is an instance of one
  abbrev pub AreAllIrreducibleUnifiers : List Substitution → Type 0
  AreAllIrreducibleUnifiers = IsCompleteSet IsIrreducibleUnifier (IsInstance g.declarations (variables_of problem))
