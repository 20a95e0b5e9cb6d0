-- Fresh names for the variables of a variant.
use Rattle.std.specs.Prelude.{◌≡◌, ◌≤◌, ℕ, List, [], Contains}
use Rattle.fvn_base.specs.declared.limits.TheConstants.{FIRST_FRESH}
use Rattle.fvn_terms.specs.declared.plain.Var.{Var}
use Rattle.fvn_terms.specs.declared.declarations.Declarations.{Declarations}
use Rattle.fvn_forms.specs.Flat.{fpack}
use Rattle.fvn_flat.specs.Bindings.{Bindings, value, BindingsFit}
use Rattle.fvn_flat.specs.Drawn.{OccursInValues}
use Rattle.fvn_flat.specs.Solving.{substitution}
use Rattle.fvn_flat.specs.Variables.{with_all_variables, renaming, RenamesApart}
use Rattle.fvn_cover.specs.declared.variant.Variant.{Variant}
use Rattle.fvn_cover.specs.Covering.{values_of}

-- the variables of what a variant makes of its variables, each once
abbrev pub variables_of_values : Variant → List Var
variables_of_values v = with_all_variables (fpack (values_of v)) []

-- fresh variables of the same sorts, one to one, for all variables of the values, numbered from 0 to below the next
pub record AreFreshNames (v : Variant) (names : Bindings) (next : ℕ) : Type 0 where
  pub vars : List Var
  pub named : names ≡ renaming 0 vars
  pub apart : RenamesApart (Contains vars) 0 next (value names)
  pub held : (x : Var) → OccursInValues v.vars (substitution v.subst) x → Contains vars x
  pub small : next ≤ FIRST_FRESH
  pub fits : (d : Declarations) → BindingsFit d names
