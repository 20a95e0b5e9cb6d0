-- The rules of the first equations.
use Rattle.std.specs.Prelude.{◌≡◌, ◌≤◌, ◌<◌, ◌+◌, ℕ, List, length, Contains, Some, slice_get}
use Rattle.fvn_terms.specs.declared.declarations.Declarations.{Declarations}
use Rattle.fvn_forms.specs.Flat.{FlatTerm}
use Rattle.fvn_flat.specs.Rules.{IsRuleFrom}
use Rattle.fvn_theory.specs.declared.equation.Equation.{Equation}
use Rattle.fvn_theory.specs.Equations.{sides_of}
use Rattle.fvn_rewrite_rules.specs.declared.rule.Rule.{Rule}
use Rattle.fvn_rewrite_rules.specs.Given.{HasOldVariables, IsNumberedRule, AreOrdered}
use Rattle.fvn_rewrite_rules.specs.inner.Making.{StandsFor}

-- all rules of the first count of the equations, in the order of these
pub record AreRulesUpTo (d : Declarations) (equations : List Equation) (count : ℕ) (rules : List Rule) : Type 0 where
  pub sound : (rule : Rule) → Contains rules rule → IsNumberedRule d equations rule
  pub numbers : (rule : Rule) → Contains rules rule → rule.equation ≤ count
  pub complete :
      (before : ℕ) (equation : Equation) (l r : FlatTerm) →
      before < count → slice_get equations before ≡ Some equation → IsRuleFrom d (sides_of equation) l r →
      (rule : Rule) × (Contains rules rule × ((rule.equation ≡ before + 1) × StandsFor d l r rule))
  pub ordered : AreOrdered rules
  pub old : (rule : Rule) → Contains rules rule → HasOldVariables rule

-- all rules of the equations, in the order of these
abbrev pub AreAllRules : Declarations → List Equation → List Rule → Type 0
AreAllRules d equations rules = AreRulesUpTo d equations (length equations) rules
