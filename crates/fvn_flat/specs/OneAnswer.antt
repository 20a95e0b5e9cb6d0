-- Complete sets of unifiers of a problem, and problems that have one answer.
use Rattle.std.specs.Prelude.{◌↔◌, List, Contains}
use Rattle.fvn_terms.specs.declared.plain.Var.{Var}
use Rattle.fvn_terms.specs.declared.declarations.Declarations.{Declarations}
use Rattle.fvn_terms.specs.Substitution.{Substitution}
use Rattle.fvn_terms.specs.Unifiers.{Problem, IsUnifier, IsInstance}
use Rattle.fvn_terms.specs.CompleteSets.{IsCompleteSet, IsApart, IsShortest}
use Rattle.fvn_flat.specs.Problems.{variables_of}

-- these are unifiers of the problem, and every unifier is an instance of one of them on the problem's variables
abbrev pub IsCompleteFor : Declarations → Problem → List Substitution → Type 0
IsCompleteFor d problem = IsCompleteSet (IsUnifier d problem) (IsInstance d (variables_of problem))

-- none is an instance of another on the problem's variables
abbrev pub IsApartFor : Declarations → Problem → List Substitution → Type 0
IsApartFor d problem = IsApart (IsInstance d (variables_of problem))

-- no complete set of unifiers has fewer members
abbrev pub IsShortestFor : Declarations → Problem → List Substitution → Type 0
IsShortestFor d problem = IsShortest (IsUnifier d problem) (IsInstance d (variables_of problem))

-- the same substitutions answer both problems
pub record HaveOneAnswer (d : Declarations) (problem other : Problem) : Type 0 where
  pub variables : (x : Var) → Contains (variables_of problem) x ↔ Contains (variables_of other) x
  pub unifiers : (s : Substitution) → IsUnifier d problem s ↔ IsUnifier d other s
  pub instances : (a b : Substitution) → IsInstance d (variables_of problem) a b ↔ IsInstance d (variables_of other) a b
  pub complete : (set : List Substitution) → IsCompleteFor d problem set ↔ IsCompleteFor d other set
  pub apart : (set : List Substitution) → IsApartFor d problem set ↔ IsApartFor d other set
  pub shortest : (set : List Substitution) → IsShortestFor d problem set ↔ IsShortestFor d other set
