-- What is asked of a start that is explored.
use Rattle.std.specs.Prelude.{◌≡◌, ◌≤◌, List, length, All}
use Rattle.fvn_terms.specs.declared.declarations.Declarations.{Declarations}
use Rattle.fvn_terms.specs.Rewriting.{IsIrreducible}
use Rattle.fvn_forms.specs.Flat.{FlatTerm}
use Rattle.fvn_flat.specs.Fits.{AllFit}
use Rattle.fvn_exploring.specs.Setting.{Setting}
use Rattle.fvn_exploring.specs.Explorations.{AreOverStart}

-- at least one form, and all fit
pub record IsStartable (d : Declarations) (start : List FlatTerm) : Type 0 where
  pub some : 1 ≤ length start
  pub fit : AllFit d start

-- an expander with this setting explores in the signature
pub record IsSettingIn (g : Setting) (d : Declarations) : Type 0 where
  pub declarations : g.declarations ≡ d

-- the fixed terms have no variables but those of the start, and are irreducible as they are given
pub record AreFixedFor (g : Setting) (start : List FlatTerm) : Type 0 where
  pub over : AreOverStart g start
  pub irreducible : All (IsIrreducible g.declarations g.equations) g.fixed
