-- The theory of a module's equations.
-- S. Escobar, R. Sasse and J. Meseguer, Folding variant narrowing and optimal variant termination, 2012.
use Rattle.std.specs.Prelude.{◌≡◌, ◌⊎◌, List, Contains}
use Rattle.fvn_terms.specs.declared.plain.Var.{Var}
use Rattle.fvn_terms.specs.declared.declarations.Declarations.{Declarations}
use Rattle.fvn_terms.specs.Term.{Term}
use Rattle.fvn_terms.specs.Substitution.{Substitution, apply}
use Rattle.fvn_terms.specs.Places.{AtOnePlace, Leads}
use Rattle.fvn_terms.specs.Equality.{IsAxiomEitherWay}
use Rattle.fvn_terms.specs.Sorts.{IsWellSorted}
use Rattle.fvn_terms.specs.Unifiers.{Problem, Solves, IsInstanceUpTo}

-- the left and right side of each equation
abbrev pub Equations : Type 0
Equations = List (Term × Term)

module _ (d : Declarations) (equations : Equations) where
  -- t and u are the sides of an equation under one well-sorted substitution
  pub record IsRule (t u : Term) : Type 0 where
    pub left : Term
    pub right : Term
    pub listed : Contains equations (left, right)
    pub by : Substitution
    pub well_sorted : IsWellSorted d by
    pub from : t ≡ apply by left
    pub to : u ≡ apply by right

  -- an axiom or an equation, in either direction
  abbrev pub IsLaw : Term → Term → Type 0
  IsLaw t u = IsAxiomEitherWay d t u ⊎ (IsRule t u ⊎ IsRule u t)

  -- equal in the theory
  abbrev pub TEqual : Term → Term → Type 0
  TEqual = Leads (AtOnePlace IsLaw)

  -- s makes both sides of each pair equal in the theory
  abbrev pub IsTheoryUnifier : Problem → Substitution → Type 0
  IsTheoryUnifier problem s = IsWellSorted d s × Solves TEqual problem s

  -- on these variables, a is in the theory b followed by a well-sorted substitution
  abbrev pub IsTheoryInstance : List Var → Substitution → Substitution → Type 0
  IsTheoryInstance = IsInstanceUpTo d TEqual
