-- Two terms without a common variable, whose instances meet, and the unifiers that both instances come from.
-- J.-M. Hullot, Canonical forms and unification, 1980.
use Rattle.std.specs.Prelude.{◌≡◌, ◌≤◌, ℕ, true, Contains}
use Rattle.fvn_terms.specs.declared.plain.Var.{Var}
use Rattle.fvn_terms.specs.declared.declarations.Declarations.{Declarations}
use Rattle.fvn_terms.specs.Term.{Term, var}
use Rattle.fvn_terms.specs.Substitution.{Substitution, apply, Occurs}
use Rattle.fvn_terms.specs.Equality.{BEqual}
use Rattle.fvn_terms.specs.Sorts.{IsWellSorted}
use Rattle.fvn_terms.specs.Unifiers.{Problem}
use Rattle.fvn_flat.specs.Problems.{variables_of}
use Rattle.fvn_flat.specs.Drawn.{OccursInValues}

-- the variable is fresh, with this number or a greater one
abbrev pub IsNew : ℕ → Var → Type 0
IsNew first x = (x.fresh ≡ true) × (first ≤ x.name)

-- no variable occurs in both terms
abbrev pub ShareNone : Term → Term → Type 0
ShareNone t u = (x : Var) → Occurs x t → Occurs x u → ⊥

-- s moves the variables of the problem alone, to terms over new ones
pub record IsOverNew (first : ℕ) (problem : Problem) (s : Substitution) : Type 0 where
  pub others_stay : (x : Var) → (Contains (variables_of problem) x → ⊥) → s x ≡ var x
  pub new : (y : Var) → OccursInValues (variables_of problem) s y → IsNew first y

module _ (d : Declarations) where
  -- what s makes of t and what c makes of u are equal modulo the axioms
  pub record Meet (t u : Term) (s c : Substitution) : Type 0 where
    pub left : IsWellSorted d s
    pub right : IsWellSorted d c
    pub equal : BEqual d (apply s t) (apply c u)

  -- One well-sorted substitution that follows the unifier has the values of c at the variables of u, and those of s at
  -- all others that are not new.
  pub record ComeFrom (first : ℕ) (u : Term) (s c unifier : Substitution) : Type 0 where
    pub by : Substitution
    pub well_sorted : IsWellSorted d by
    pub outside : (x : Var) → (Occurs x u → ⊥) → (IsNew first x → ⊥) → BEqual d (s x) (apply by (unifier x))
    pub within : (x : Var) → Occurs x u → BEqual d (c x) (apply by (unifier x))
