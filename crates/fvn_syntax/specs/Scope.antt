-- What names are read in.
use Rattle.std.specs.Prelude.{Bool, ◌≤◌, length}
use Rattle.fvn_base.specs.declared.limits.TheConstants.{NAMES}
use Rattle.fvn_terms.specs.declared.declarations.Declarations.{Declarations}
use Rattle.fvn_syntax.specs.declared.names.Names.{Names}

-- Declared sorts with kinds, operators and variables, and whether names of variables are guarded, so that none
-- may begin with `#`.
pub record Scope : Type 0 where
  pub declarations : Declarations
  pub names : Names
  pub guarded : Bool

-- sorts and operators have numbers
abbrev pub IsNumbered : Names → Type 0
IsNumbered names = (length names.sorts ≤ NAMES) × (length names.ops ≤ NAMES)
