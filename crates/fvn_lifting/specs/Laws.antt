-- Laws of lifting: a reducible instance with irreducible values is an instance of a child.
-- J.-M. Hullot, Canonical forms and unification, 1980; J. Meseguer and P. Thati, Symbolic reachability analysis using
-- narrowing, 2007.
use Rattle.std.specs.Prelude.{◌≡◌, ◌⊎◌, ℕ, List, [], ◌∷◌, map, All, Any, Contains, Some}
use Rattle.fvn_terms.specs.declared.plain.Var.{Var}
use Rattle.fvn_terms.specs.declared.plain.OpId.{OpId}
use Rattle.fvn_terms.specs.declared.declarations.Declarations.{Declarations}
use Rattle.fvn_terms.specs.Term.{Term}
use Rattle.fvn_terms.specs.Substitution.{Substitution, apply, Occurs}
use Rattle.fvn_terms.specs.Sorts.{IsWellSorted}
use Rattle.fvn_terms.specs.Theory.{Equations}
use Rattle.fvn_terms.specs.Rewriting.{IsIrreducible, ListRewrites}
use Rattle.fvn_forms.specs.Flat.{FlatTerm, plain}
use Rattle.fvn_forms.specs.Good.{IsGood}
use Rattle.fvn_signature.specs.Queries.{IsCompleted}
use Rattle.fvn_theory.specs.Equations.{equations_of}
use Rattle.fvn_flat.specs.Fits.{Fits, AllFit}
use Rattle.fvn_flat.specs.Forms.{head_of}
use Rattle.fvn_flat.specs.OneAnswer.{IsCompleteFor}
use Rattle.fvn_flat.specs.Successors.{Narrowed, OccursIn, IsRenamed, IsStepFrom}
use Rattle.fvn_cover.specs.declared.variant.Variant.{Variant}
use Rattle.fvn_rewrite_laws.specs.Admissible.{AreAdmissible}
use Rattle.fvn_rewrite_rules.specs.declared.rule.Rule.{Rule}
use Rattle.fvn_rewrite_rules.specs.Given.{RuleLists, AreRules, headed}
use Rattle.fvn_exploring.specs.Setting.{Setting}
use Rattle.fvn_exploring.specs.Children.{narrowed}
use Rattle.fvn_exploring.specs.Liftings.{LiftsInto}
use Rattle.fvn_exploring.specs.Expansions.{IsExpandable}
use Rattle.fvn_lifting.specs.Meetings.{IsNew, ShareNone, IsOverNew, Meet, ComeFrom}
use Rattle.fvn_lifting.specs.Turns.{IsTurn, MeetsRule}
use Rattle.fvn_lifting.specs.Lifted.{may_be_any, HaveOneInstance, IsStepUnder, LiftsAt, IsTurned}
use Rattle.fvn_lifting.specs.Pairs.{IsMetInPairs, IsReducibleInPart, PairsLiftAt}

-- Where s and c make two terms without common variables meet, both come from one member of any complete list of
-- unifiers over new variables.
abbrev pub MeetingsComeFromUnifiers : Type 0
MeetingsComeFromUnifiers =
    (d : Declarations) (first : ℕ) (t u : Term) → ShareNone t u →
    (unifiers : List Substitution) → IsCompleteFor d ((t, u) ∷ []) unifiers →
    All (IsOverNew first ((t, u) ∷ [])) unifiers →
    (s c : Substitution) → Meet d t u s c → Any (ComeFrom d first u s c) unifiers

-- rules of admissible equations, in a good signature with all that its queries need
pub record AreUsed (d : Declarations) (equations : Equations) (lists : RuleLists) : Type 0 where
  pub good : IsGood d
  pub completed : IsCompleted d
  pub same : equations_of lists.equations ≡ equations
  pub admissible : AreAdmissible d equations
  pub rules : AreRules d lists

-- each step of an instance of forms with irreducible values is at a turn, where it meets the rule
abbrev pub InstancesMeetRules : Type 0
InstancesMeetRules =
    (d : Declarations) (equations : Equations) (lists : RuleLists) → AreUsed d equations lists →
    (terms : List FlatTerm) → AllFit d terms → (s : Substitution) → IsWellSorted d s →
    ((x : Var) → Any (λ t. Occurs x (plain t)) terms → IsIrreducible d equations (s x)) →
    (us : List Term) → ListRewrites d equations (map (apply s) (map plain terms)) us → MeetsRule d lists terms s

-- where an instance of a sum meets a rule that is met in pairs, that of one summand or of two is reducible
abbrev pub SumsStepInPairs : Type 0
SumsStepInPairs =
    (d : Declarations) (equations : Equations) (lists : RuleLists) → AreUsed d equations lists →
    (at : FlatTerm) → Fits d at → (f : OpId) → head_of at ≡ Some f →
    (rule : Rule) → Contains (headed lists f) rule → IsMetInPairs d lists rule →
    (s c : Substitution) → Meet d (plain at) (plain rule.left) s c → IsReducibleInPart d equations f at s

-- what a narrowing step makes is reached by one step from the instance by its unifier, with the same values
abbrev pub SuccessorsAreSteps : Type 0
SuccessorsAreSteps =
    (d : Declarations) → IsGood d → IsCompleted d → (equations : Equations) → AreAdmissible d equations →
    (vars : List Var) (v w : Narrowed) → AllFit d v.terms →
    (step : IsStepFrom d vars equations may_be_any v w) → IsStepUnder d vars equations v w step.unifier

-- each well-sorted instance is one of the same forms and values with renamed variables
abbrev pub RenamedFormsHaveTheSameInstances : Type 0
RenamedFormsHaveTheSameInstances =
    (d : Declarations) → IsGood d → (vars : List Var) (v w : Narrowed) → AllFit d v.terms → IsRenamed d vars v w →
    (s : Substitution) → IsWellSorted d s → (c : Substitution) × HaveOneInstance d vars v w s c

-- the fixed terms have no variables but these
abbrev pub AreFixedOver : Setting → List Var → Type 0
AreFixedOver g vars = All (λ t. (y : Var) → Occurs y t → Contains vars y) g.fixed

-- Where each member of a complete list of unifiers over new variables was turned into a child, or gave something
-- reducible, each instance that meets the left side lifts into a child.
abbrev pub TurnsLift : Type 0
TurnsLift =
    (g : Setting) (vars : List Var) → AreFixedOver g vars → (from : Narrowed) (at left : FlatTerm) (first : ℕ) →
    ShareNone (plain at) (plain left) →
    ((x : Var) → OccursIn g.declarations vars from x → (Occurs x (plain left) → ⊥) × (IsNew first x → ⊥)) →
    (unifiers : List Substitution) → IsCompleteFor g.declarations ((plain at, plain left) ∷ []) unifiers →
    All (IsOverNew first ((plain at, plain left) ∷ [])) unifiers →
    (children : List Variant) → All (IsTurned g vars from children) unifiers → LiftsAt g vars from at left children

-- Where at each turn instances lift, or else the rule is met in pairs and at pairs they lift, each reducible instance
-- with irreducible values lifts into a child.
abbrev pub WholeExpansionsLift : Type 0
WholeExpansionsLift =
    (g : Setting) (lists : RuleLists) → AreUsed g.declarations g.equations lists →
    (first : ℕ) (v : Variant) → IsExpandable g first v →
    (from : Narrowed) → IsRenamed g.declarations v.vars (narrowed v) from → (children : List Variant) →
    ((at : FlatTerm) (rule : Rule) → IsTurn lists from.terms at rule →
    LiftsAt g v.vars from at rule.left children
    ⊎ (IsMetInPairs g.declarations lists rule × PairsLiftAt g lists v.vars from at children)) →
    LiftsInto g v (Contains children)
