-- Unifiers and instances.
-- M. E. Stickel, A unification algorithm for associative-commutative functions, 1981.
-- F. Baader and K. U. Schulz, Unification in the union of disjoint equational theories, 1996.
use Rattle.std.specs.Prelude.{List, All, Contains}
use Rattle.fvn_terms.specs.declared.plain.Var.{Var}
use Rattle.fvn_terms.specs.declared.declarations.Declarations.{Declarations}
use Rattle.fvn_terms.specs.Term.{Term}
use Rattle.fvn_terms.specs.Substitution.{Substitution, apply}
use Rattle.fvn_terms.specs.Equality.{BEqual}
use Rattle.fvn_terms.specs.Sorts.{IsWellSorted}

-- pairs of terms that are to be made equal
abbrev pub Problem : Type 0
Problem = List (Term × Term)

-- the two sides of each pair are made equal
abbrev pub Solves : (Term → Term → Type 0) → Problem → Substitution → Type 0
Solves E problem s = All (λ p. E (apply s p.0) (apply s p.1)) problem

-- s makes both sides of each pair equal modulo the axioms
abbrev pub IsUnifier : Declarations → Problem → Substitution → Type 0
IsUnifier d problem s = IsWellSorted d s × Solves (BEqual d) problem s

-- on these variables, a is b followed by a well-sorted substitution, up to E
pub record IsInstanceUpTo (d : Declarations) (E : Term → Term → Type 0) (vars : List Var) (a b : Substitution) : Type 0 where
  pub after : Substitution
  pub well_sorted : IsWellSorted d after
  pub equal : (x : Var) → Contains vars x → E (a x) (apply after (b x))

-- on these variables, a is modulo the axioms b followed by a well-sorted substitution
abbrev pub IsInstance : Declarations → List Var → Substitution → Substitution → Type 0
IsInstance d = IsInstanceUpTo d (BEqual d)
