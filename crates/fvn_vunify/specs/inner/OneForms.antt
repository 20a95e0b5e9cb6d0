-- Terms that have one normal form two by two, and their variables.
use Rattle.std.specs.Prelude.{◌≡◌, List, [], ◌∷◌, Contains}
use Rattle.fvn_terms.specs.declared.plain.Var.{Var}
use Rattle.fvn_forms.specs.Flat.{FlatTerm, fpack}
use Rattle.fvn_flat.specs.Bindings.{Bindings}
use Rattle.fvn_flat.specs.Variables.{with_all_variables}
use Rattle.fvn_rewrite_laws.specs.Normalised.{IsForm}
use Rattle.fvn_exploring.specs.declared.ends.ExploreEnd.TheVariants.{Complete}
use Rattle.fvn_exploring.specs.Setting.{Setting}
use Rattle.fvn_vunify.specs.declared.solved.SolvedModulo.{SolvedModulo}
use Rattle.fvn_vunify.specs.Sides.{two_by_two}
use Rattle.fvn_vunify.specs.AtOnce.{HaveOneForm}

-- the second is a normal form of the first, within the limits
abbrev pub IsFormIn : Setting → FlatTerm → FlatTerm → Type 0
IsFormIn g t = IsForm g.declarations g.equations t g.bounds

-- of the forms, each two that are taken together have one normal form
abbrev pub HaveOneFormEach : Setting → List FlatTerm → Type 0
HaveOneFormEach g ts = (p : FlatTerm × FlatTerm) → Contains (two_by_two ts) p → HaveOneForm g p.0 p.1

-- the variables of the forms, each once
abbrev pub variables_of_forms : List FlatTerm → List Var
variables_of_forms ts = with_all_variables (fpack ts) []

-- the substitution is all that is found
pub record IsAlone (s : Bindings) (r : SolvedModulo) : Type 0 where
  pub unifiers : r.unifiers ≡ s ∷ []
  pub end : r.end ≡ Complete
