-- Terms as variants that are expanded.
use Rattle.std.specs.Prelude.{◌≡◌, false, [], ◌∷◌}
use Rattle.fvn_terms.specs.declared.plain.Var.{Var}
use Rattle.fvn_terms.specs.Substitution.{Occurs}
use Rattle.fvn_forms.specs.Flat.{FlatTerm, plain}
use Rattle.fvn_flat.specs.Fits.{Fits}
use Rattle.fvn_flat.specs.Variables.{with_variables}
use Rattle.fvn_cover.specs.declared.variant.Variant.{Variant}
use Rattle.fvn_exploring.specs.Setting.{Setting}

-- the form fits and has no fresh variable, and no term is asked to stay irreducible
pub record MayStart (g : Setting) (t : FlatTerm) : Type 0 where
  pub fits : Fits g.declarations t
  pub old : (x : Var) → Occurs x (plain t) → x.fresh ≡ false
  pub none_fixed : g.fixed ≡ []

-- the form alone, with its variables as they are
pub record IsAlone (t : FlatTerm) (v : Variant) : Type 0 where
  pub terms : v.terms ≡ t ∷ []
  pub values : v.subst ≡ []
  pub vars : v.vars ≡ with_variables t []
