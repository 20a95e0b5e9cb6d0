-- Rules that subsume others.
use Rattle.std.specs.Prelude.{◌⊎◌, List, Contains}
use Rattle.fvn_terms.specs.declared.declarations.Declarations.{Declarations}
use Rattle.fvn_flat.specs.Fits.{Fits}
use Rattle.fvn_rewrite_rules.specs.declared.rule.Rule.{Rule}
use Rattle.fvn_critical_pairs.specs.Overlaps.{SomeSubsumes}

-- both sides of the rule fit
pub record SidesFit (d : Declarations) (rule : Rule) : Type 0 where
  pub left : Fits d rule.left
  pub right : Fits d rule.right

-- each of the first rules is one of the second
abbrev pub AreAmong : List Rule → List Rule → Type 0
AreAmong some rules = (rule : Rule) → Contains some rule → Contains rules rule

-- of these rules some are left to be looked at, and those that were chosen subsume all others
pub record AreChosenBut (d : Declarations) (rules rest chosen : List Rule) : Type 0 where
  pub left : AreAmong rest rules
  pub given : AreAmong chosen rules
  pub enough : (rule : Rule) → Contains rules rule → Contains rest rule ⊎ SomeSubsumes d chosen rule
