-- A variant with new variables in place of its own.
use Rattle.std.specs.Prelude.{◌≡◌, ◌≤◌, ◌<◌, ℕ, true, map, Contains}
use Rattle.fvn_base.specs.declared.limits.TheConstants.{FIRST_FRESH}
use Rattle.fvn_terms.specs.declared.plain.Var.{Var}
use Rattle.fvn_terms.specs.declared.declarations.Declarations.{Declarations}
use Rattle.fvn_terms.specs.Term.{var}
use Rattle.fvn_terms.specs.Equality.{BEqual}
use Rattle.fvn_flat.specs.Drawn.{Renaming, renamed}
use Rattle.fvn_flat.specs.Solving.{substitution}
use Rattle.fvn_flat.specs.Successors.{IsRenaming, renamed_form, OccursIn}
use Rattle.fvn_cover.specs.declared.variant.Variant.{Variant}
use Rattle.fvn_cover.specs.Covering.{IsFlatVariant}
use Rattle.fvn_exploring.specs.Children.{narrowed, HoldsVariables}

-- fresh, with a number from 1 to below this one
pub record IsNumberedUpTo (next : ℕ) (y : Var) : Type 0 where
  pub fresh : y.fresh ≡ true
  pub low : 1 ≤ y.name
  pub high : y.name < next

-- the variant with its variables renamed, one to one, to fresh ones with numbers from 1 to below the next
pub record IsStartOf (d : Declarations) (next : ℕ) (v start : Variant) : Type 0 where
  pub vars : start.vars ≡ v.vars
  pub by : Renaming
  pub renames : IsRenaming (OccursIn d v.vars (narrowed v)) by
  pub terms : start.terms ≡ map (renamed_form d by) v.terms
  pub values : (x : Var) → Contains v.vars x → BEqual d (substitution start.subst x) (renamed by (substitution v.subst x))
  -- it is flat, binds no others, and its terms have no variables but its values'
  pub flat : IsFlatVariant d start
  pub others : (x : Var) → (Contains v.vars x → ⊥) → substitution start.subst x ≡ var x
  pub holds : HoldsVariables start
  pub numbers : (y : Var) → OccursIn d v.vars (narrowed start) y → IsNumberedUpTo next y
  pub positive : 1 ≤ next
  pub small : next ≤ FIRST_FRESH
