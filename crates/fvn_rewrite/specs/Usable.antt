-- Rules that steps are made with, and what rewrites with them.
use Rattle.fvn_terms.specs.declared.declarations.Declarations.{Declarations}
use Rattle.fvn_terms.specs.Theory.{Equations}
use Rattle.fvn_theory.specs.declared.bounds.Bounds.{Bounds}
use Rattle.fvn_theory.specs.Equations.{equations_of}
use Rattle.fvn_rewrite_laws.specs.Admissible.{AreAdmissible}
use Rattle.fvn_rewrite_rules.specs.Given.{RuleLists, AreRules}

-- the rules are those of admissible equations
pub record AreUsable (d : Declarations) (lists : RuleLists) : Type 0 where
  pub rules : AreRules d lists
  pub admissible : AreAdmissible d (equations_of lists.equations)

-- what rewrites: declarations, rules, and limits on steps and symbols
pub record Rewriting : Type 0 where
  pub signature : Declarations
  pub rules : RuleLists
  pub bounds : Bounds

-- the equations that its rules are made from
abbrev pub equations_by : Rewriting → Equations
equations_by r = equations_of r.rules.equations
