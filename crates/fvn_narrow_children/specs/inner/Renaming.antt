-- Variants with renamed variables.
use Rattle.std.specs.Prelude.{◌≡◌, List, [], ◌∷◌, map}
use Rattle.fvn_terms.specs.declared.plain.Var.{Var}
use Rattle.fvn_terms.specs.declared.declarations.Declarations.{Declarations}
use Rattle.fvn_forms.specs.Canon.{inst}
use Rattle.fvn_flat.specs.Bindings.{Bindings, value}
use Rattle.fvn_flat.specs.Variables.{with_variables}
use Rattle.fvn_cover.specs.declared.variant.Variant.{Variant}
use Rattle.fvn_narrow_children.specs.Values.{AreValuesUnder}

-- the list with the variables of the values of these
abbrev pub value_variables : Bindings → List Var → List Var → List Var
value_variables s [] list = list
value_variables s (x ∷ vars) list = value_variables s vars (with_variables (value s x) list)

-- the variant under a renaming of its variables
pub record IsRenamedBy (d : Declarations) (names : Bindings) (v w : Variant) : Type 0 where
  pub terms : w.terms ≡ map (inst d (value names)) v.terms
  pub values : AreValuesUnder d v names w.subst
  pub vars : w.vars ≡ v.vars
