-- Substitutions that are more general than a unifier.
use Rattle.std.specs.Prelude.{List, Contains}
use Rattle.fvn_terms.specs.declared.plain.Var.{Var}
use Rattle.fvn_terms.specs.declared.declarations.Declarations.{Declarations}
use Rattle.fvn_terms.specs.Substitution.{Substitution}
use Rattle.fvn_terms.specs.Sorts.{HasSort, IsWellSorted}
use Rattle.fvn_terms.specs.Unifiers.{IsInstance}

-- the substitution gives these variables terms of their sorts
abbrev pub KeepsSorts : Declarations → List Var → Substitution → Type 0
KeepsSorts d vars s = (x : Var) → Contains vars x → HasSort d (s x) x.sort

-- v is more general than u: on these variables u is an instance of it, and it keeps sorts where u does
pub record IsMoreGeneral (d : Declarations) (vars : List Var) (u v : Substitution) : Type 0 where
  pub instance : IsInstance d vars u v
  pub sorts : KeepsSorts d vars u → KeepsSorts d vars v
  pub well_sorted : IsWellSorted d u → IsWellSorted d v
