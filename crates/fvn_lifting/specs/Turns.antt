-- The turns of an expansion: a place of one of the forms, and a rule that is needed there.
use Rattle.std.specs.Prelude.{◌≡◌, List, Contains, Some}
use Rattle.fvn_terms.specs.declared.plain.OpId.{OpId}
use Rattle.fvn_terms.specs.declared.declarations.Declarations.{Declarations}
use Rattle.fvn_terms.specs.Substitution.{Substitution}
use Rattle.fvn_forms.specs.Flat.{FlatTerm, plain}
use Rattle.fvn_flat.specs.Forms.{head_of}
use Rattle.fvn_flat.specs.FlatPlaces.{IsAtPlace}
use Rattle.fvn_rewrite_rules.specs.declared.rule.Rule.{Rule}
use Rattle.fvn_rewrite_rules.specs.Given.{RuleLists, headed}
use Rattle.fvn_lifting.specs.Meetings.{Meet}

-- a form stands at a place of one of the terms, and the rule is needed under the operator that heads it
pub record IsTurn (lists : RuleLists) (terms : List FlatTerm) (at : FlatTerm) (rule : Rule) : Type 0 where
  pub term : FlatTerm
  pub listed : Contains terms term
  pub at_place : IsAtPlace at term
  pub operator : OpId
  pub heads : head_of at ≡ Some operator
  pub needed : Contains (headed lists operator) rule

-- at some turn, the instance of the form meets one of the rule's left side
pub record MeetsRule (d : Declarations) (lists : RuleLists) (terms : List FlatTerm) (s : Substitution) : Type 0 where
  pub at : FlatTerm
  pub rule : Rule
  pub turn : IsTurn lists terms at rule
  pub by : Substitution
  pub meets : Meet d (plain at) (plain rule.left) s by
