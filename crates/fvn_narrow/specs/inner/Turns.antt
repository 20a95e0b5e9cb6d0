-- The turns of an expansion, and what is found in them.
use Rattle.std.specs.Prelude.{◌≡◌, ◌≤◌, ◌<◌, ◌⊎◌, ◌+◌, ℕ, Bool, true, false, IsTrue, List, [], ◌∷◌, ◌++◌, length, map, take, drop, All, Contains, Some, None, slice_get}
use Rattle.fvn_base.specs.declared.limits.TheConstants.{FIRST_FRESH}
use Rattle.fvn_terms.specs.declared.plain.Var.{Var}
use Rattle.fvn_terms.specs.declared.plain.OpId.{OpId}
use Rattle.fvn_terms.specs.declared.declarations.Declarations.{Declarations}
use Rattle.fvn_terms.specs.Term.{var}
use Rattle.fvn_terms.specs.Substitution.{Substitution}
use Rattle.fvn_terms.specs.Signature.{axioms}
use Rattle.fvn_terms.specs.Equality.{IsAssociative, BEqual}
use Rattle.fvn_terms.specs.Unifiers.{Problem}
use Rattle.fvn_terms.specs.Rewriting.{ListSequence}
use Rattle.fvn_forms.specs.Flat.{FlatTerm, fapp, fpack, plain}
use Rattle.fvn_forms.specs.Canon.{canon}
use Rattle.fvn_flat.specs.Bindings.{Bindings}
use Rattle.fvn_flat.specs.Fits.{AllFit, Takes}
use Rattle.fvn_flat.specs.FlatPlaces.{Beside, IsPartOf, with_beside}
use Rattle.fvn_flat.specs.Forms.{head_of, args_of}
use Rattle.fvn_flat.specs.Solving.{substitution}
use Rattle.fvn_flat.specs.Successors.{Narrowed, OccursIn, IsStepFrom}
use Rattle.fvn_flat.specs.declared.solver.Pairs.{Pairs}
use Rattle.fvn_rewrite_rules.specs.declared.rule.Rule.{Rule}
use Rattle.fvn_rewrite_rules.specs.Given.{headed}
use Rattle.fvn_rewrite.specs.Usable.{Rewriting, equations_by}
use Rattle.fvn_cover.specs.declared.variant.Variant.{Variant}
use Rattle.fvn_cover.specs.Covering.{AreAlike, IsFlatVariant}
use Rattle.fvn_exploring.specs.Setting.{Setting}
use Rattle.fvn_exploring.specs.Children.{narrowed, HoldsVariables, IsMember}
use Rattle.fvn_exploring.specs.Causes.{IsStepsCause, IsSizeCause, IsSystemCause, IsUnifiersCause, IsRuleProblem}
use Rattle.fvn_exploring.specs.declared.ends.ExpandEnd.{ExpandEnd}
use Rattle.fvn_exploring.specs.declared.ends.ExpandEnd.TheVariants.{Whole, Steps, Size, Basis, Unifiers}
use Rattle.fvn_exploring.specs.declared.ends.Expansion.{Expansion}
use Rattle.fvn_lifting.specs.Lifted.{LiftsAt}
use Rattle.fvn_lifting.specs.Pairs.{IsMetInPairs, PairsLiftAt}
use Rattle.fvn_places.specs.Paths.{LeadsTo}
use Rattle.fvn_places.specs.Putting.{CanPut, PutAs}
use Rattle.fvn_narrow_children.specs.Starts.{IsNumberedUpTo}
use Rattle.fvn_narrow_children.specs.Values.{AreIrreducible}
use Rattle.fvn_narrow_children.specs.Growing.{AreGrown}
use Rattle.fvn_narrow.specs.Settings.{narrowing_setting}
use Rattle.fvn_narrow.specs.inner.Serving.{SomeServes}

-- which member of the terms, the path to a form in it, what stands beside a part of this form, and a rule
pub record Turn : Type 0 where
  pub member : ℕ
  pub path : List ℕ
  pub beside : Beside
  pub rule : Rule

-- a turn from what it is made of
abbrev pub turn_of : ℕ → List ℕ → Beside → Rule → Turn
turn_of member path beside rule = record { member = member; path = path; beside = beside; rule = rule }

-- what is put in the form's place: the rule's right side, with what stands beside the part
abbrev pub put_in : Declarations → Turn → FlatTerm
put_in d turn = with_beside d turn.beside turn.rule.right

-- where a sum is divided, something is left
abbrev pub SomeLeft : Beside → Type 0
SomeLeft None = Unit {0}
SomeLeft (Some sum) = 1 ≤ length sum.1

-- the operator takes the form and what stands beside it
abbrev pub CanStandBeside : Declarations → Beside → FlatTerm → Type 0
CanStandBeside d None t = Unit {0}
CanStandBeside d (Some sum) t = AllFit d (t ∷ sum.1) × Takes d sum.0 (t ∷ sum.1)

-- what is kept of a variant from which one step goes on
pub record IsReady (r : Rewriting) (v : Variant) (next : ℕ) : Type 0 where
  pub flat : IsFlatVariant r.signature v
  pub others : (x : Var) → (Contains v.vars x → ⊥) → substitution v.subst x ≡ var x
  pub holds : HoldsVariables v
  pub numbers : (y : Var) → OccursIn r.signature v.vars (narrowed v) y → IsNumberedUpTo next y
  pub positive : 1 ≤ next
  pub small : next ≤ FIRST_FRESH
  pub irreducible : AreIrreducible r.signature (equations_by r) v.vars v.subst

-- the terms with a form in place of that to which the path leads in one of them
module _ (d : Declarations) (terms : List FlatTerm) (member : ℕ) (path : List ℕ) (given : FlatTerm) where
  -- the path leads to a form of whose kind the given one is, in a form that fits
  pub record CanReplace : Type 0 where
    pub term : FlatTerm
    pub is : slice_get terms member ≡ Some term
    pub can : CanPut d path term given

  -- the others stay
  pub record AreMembers (all : List FlatTerm) : Type 0 where
    pub term : FlatTerm
    pub is : slice_get terms member ≡ Some term
    pub new : FlatTerm
    pub put_there : PutAs d path term given new
    pub all_are : all ≡ take member terms ++ new ∷ drop (member + 1) terms

module _ (r : Rewriting) (v : Variant) where
  -- the turn's path leads to a form of which this is a part, and its rule is needed under the part's head
  pub record IsTurnAt (at : FlatTerm) (turn : Turn) : Type 0 where
    pub term : FlatTerm
    pub is : slice_get v.terms turn.member ≡ Some term
    pub whole : FlatTerm
    pub leads : LeadsTo turn.path term whole
    pub part : IsPartOf whole at turn.beside
    pub left : SomeLeft turn.beside
    pub operator : OpId
    pub heads : head_of at ≡ Some operator
    pub needed : Contains (headed r.rules operator) turn.rule

  -- the turn's path leads to a form of which this is a part, and its rule is any whose left side the part's head heads
  pub record IsMeetingAt (at : FlatTerm) (turn : Turn) : Type 0 where
    pub term : FlatTerm
    pub is : slice_get v.terms turn.member ≡ Some term
    pub whole : FlatTerm
    pub leads : LeadsTo turn.path term whole
    pub part : IsPartOf whole at turn.beside
    pub left : SomeLeft turn.beside
    pub operator : OpId
    pub heads : head_of at ≡ Some operator
    pub listed : Contains r.rules.rules turn.rule
    pub left_heads : head_of turn.rule.left ≡ Some operator

  -- the path leads to this form in one member, and f heads it
  pub record IsFormAt (member : ℕ) (path : List ℕ) (f : OpId) (at : FlatTerm) : Type 0 where
    pub term : FlatTerm
    pub is : slice_get v.terms member ≡ Some term
    pub leads : LeadsTo path term at
    pub heads : head_of at ≡ Some f

  -- the form is a sum of f over more than two summands
  pub record IsSumAt (member : ℕ) (path : List ℕ) (f : OpId) (at : FlatTerm) : Type 0 where
    pub form : IsFormAt member path f at
    pub associative : IsAssociative (axioms r.signature f)
    pub many : 2 < length (args_of at)

  -- no unifier and no child, or what the unifiers make of the terms with the rule's right side put in
  abbrev pub AreGrownAt : Turn → List Bindings → Expansion → Type 0
  AreGrownAt turn unifiers e = ((unifiers ≡ []) × (e.children ≡ []) × (e.end ≡ Whole))
      ⊎ ((members : List FlatTerm)
      × AreMembers r.signature v.terms turn.member turn.path (put_in r.signature turn) members
      × AreGrown r v members unifiers e)

-- a successor by one step from the variant as it is, brought to normal form
pub record IsStepChild (g : Setting) (drawn : Problem → Substitution → Type 0) (v c : Variant) : Type 0 where
  pub successor : Narrowed
  pub step : IsStepFrom g.declarations v.vars g.equations drawn (narrowed v) successor
  pub steps : ℕ
  pub reached : ListSequence g.declarations g.equations steps (map plain successor.terms) (map plain c.terms)
  pub same : (x : Var) → Contains v.vars x → BEqual g.declarations (substitution c.subst x) (successor.values x)
  pub alike : AreAlike v c
  pub member : IsMember g c

-- a term of a successor by one step, or the flat form of what it makes of a variable
pub record IsOfStep (g : Setting) (drawn : Problem → Substitution → Type 0) (v : Variant) (t : FlatTerm) : Type 0 where
  pub successor : Narrowed
  pub step : IsStepFrom g.declarations v.vars g.equations drawn (narrowed v) successor
  pub is : Contains successor.terms t
      ⊎ ((x : Var) × Contains v.vars x × (t ≡ canon g.declarations (successor.values x)))

-- why an expansion came to its end, over the problems that were posed and the terms that were told
module _ (g : Setting) (drawn : Problem → Substitution → Type 0) (Posed : Pairs → Type 0) (Told : FlatTerm → Type 0) where
  abbrev pub EndsAs : ExpandEnd → Type 0
  EndsAs Whole = Unit {0}
  EndsAs (Steps start end) = IsStepsCause g drawn Posed Told start end
  EndsAs (Size cause) = IsSizeCause g drawn Posed Told cause
  EndsAs (Basis f system) = IsSystemCause g drawn Posed Told f system
  EndsAs (Unifiers given list) = IsUnifiersCause g drawn Posed Told given list

-- a form, and a rule that is tried there
pub record Try : Type 0 where
  pub at : FlatTerm
  pub rule : Rule

-- a try from what it is made of
abbrev pub try_of : FlatTerm → Rule → Try
try_of at rule = record { at = at; rule = rule }

-- where rules that are met in pairs are passed over, this is one; and where they are not, another serves in its place
abbrev pub IsPassedOver : Rewriting → Bool → List Rule → Try → Type 0
IsPassedOver r passes rules try =
    (IsTrue passes × IsMetInPairs r.signature r.rules try.rule)
    ⊎ ((passes ≡ false) × SomeServes r.signature try.at rules try.rule)

module _ (r : Rewriting) (unifiers : ℕ) (v : Variant) where
  -- the setting of its children
  abbrev pub setting : Setting
  setting = narrowing_setting r unifiers

  -- each instance that meets the rule at the form lifts into one of these
  abbrev pub TryLifts : Try → List Variant → Type 0
  TryLifts try children = LiftsAt setting v.vars (narrowed v) try.at try.rule.left children

  -- the same; or rules that are met in pairs are passed over, and this is one
  abbrev pub TryLiftsUnless : Bool → Try → List Variant → Type 0
  TryLiftsUnless passes try children = TryLifts try children
      ⊎ (IsTrue passes × IsMetInPairs r.signature r.rules try.rule)

  -- they lift there; or the rule is passed over
  abbrev pub TryLiftsAmong : Bool → List Rule → Try → List Variant → Type 0
  TryLiftsAmong passes rules try children = TryLifts try children ⊎ IsPassedOver r passes rules try

  -- they lift there; or the rule is met in pairs, and at the pairs of the form's summands they lift
  abbrev pub TryLiftsByParts : Try → List Variant → Type 0
  TryLiftsByParts try children = TryLifts try children
      ⊎ (IsMetInPairs r.signature r.rules try.rule
      × PairsLiftAt setting r.rules v.vars (narrowed v) try.at children)

  -- so it is at the form to which the turn's path leads
  abbrev pub TurnLifts : Turn → List Variant → Type 0
  TurnLifts turn children =
      (at : FlatTerm) → IsTurnAt r v at turn → turn.beside ≡ None
      → TryLiftsByParts (try_of at turn.rule) children

-- something holds of the children for each of those that are covered
abbrev pub ForEach : {T : Type 0} → (T → List Variant → Type 0) → (T → Type 0) → List Variant → Type 0
ForEach {T} Holds Covered children = (x : T) → Covered x → Holds x children

module _ (r : Rewriting) (unifiers : ℕ) (drawn : Problem → Substitution → Type 0) (v : Variant) where
  -- what is found, of which something holds where the end is whole
  pub record AreFound (Holds : List Variant → Type 0) (e : Expansion) : Type 0 where
    pub children : All (IsStepChild (narrowing_setting r unifiers) drawn v) e.children
    pub whole : e.end ≡ Whole → Holds e.children
    pub cause : EndsAs (narrowing_setting r unifiers) drawn
        (IsRuleProblem (narrowing_setting r unifiers) v.terms)
        (IsOfStep (narrowing_setting r unifiers) drawn v) e.end

-- what is tried at one form, by one of these rules
abbrev pub IsTryOf : FlatTerm → List Rule → Try → Type 0
IsTryOf at rules try = (try.at ≡ at) × Contains rules try.rule

-- f's sum of the summands that stand at these places
pub record IsPairAt (f : OpId) (ts : List FlatTerm) (i j : ℕ) (pair : FlatTerm) : Type 0 where
  pub first : FlatTerm
  pub second : FlatTerm
  pub at_first : slice_get ts i ≡ Some first
  pub at_second : slice_get ts j ≡ Some second
  pub is : pair ≡ fapp f true (fpack (first ∷ second ∷ []))

-- what is tried at the pair of these two summands, by one of these rules
abbrev pub IsTryAt : OpId → List FlatTerm → List Rule → (ℕ × ℕ) → Try → Type 0
IsTryAt f ts rules places try = IsPairAt f ts places.0 places.1 try.at × Contains rules try.rule

-- at a pair of the first and one of those behind it, before place `to`
abbrev pub IsTryFrom : OpId → List FlatTerm → List Rule → (ℕ × ℕ) → Try → Type 0
IsTryFrom f ts rules places try =
    (j : ℕ) × (places.0 < j) × ((j < places.1) × IsTryAt f ts rules (places.0, j) try)

-- at a pair whose first is before this place
abbrev pub IsTryBefore : OpId → List FlatTerm → List Rule → ℕ → Try → Type 0
IsTryBefore f ts rules place try =
    (i : ℕ) × (i < place) × IsTryFrom f ts rules (i, length ts) try

-- all turns
abbrev pub IsAny : Turn → Type 0
IsAny turn = Unit {0}
