-- The variant of no terms, and settings without fixed terms.
use Rattle.std.specs.Prelude.{◌≡◌, []}
use Rattle.fvn_terms.specs.declared.declarations.Declarations.{Declarations}
use Rattle.fvn_flat.specs.Bindings.{BindingsFit}
use Rattle.fvn_cover.specs.declared.variant.Variant.{Variant}
use Rattle.fvn_exploring.specs.Setting.{Setting}

-- it has neither terms nor variables, and its values fit
pub record IsOfNothing (v : Variant) : Type 0 where
  pub terms : v.terms ≡ []
  pub vars : v.vars ≡ []
  pub values : (d : Declarations) → BindingsFit d v.subst

-- no term is asked to stay irreducible
abbrev pub FixesNothing : Setting → Type 0
FixesNothing g = g.fixed ≡ []
