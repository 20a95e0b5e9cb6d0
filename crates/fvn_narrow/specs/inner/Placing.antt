-- Places in terms, one for each form under whose head a rule is needed.
use Rattle.std.specs.Prelude.{◌≡◌, ◌<◌, ℕ, List, All, Contains, Some, slice_get}
use Rattle.fvn_terms.specs.declared.plain.OpId.{OpId}
use Rattle.fvn_forms.specs.Flat.{FlatTerm}
use Rattle.fvn_flat.specs.Forms.{head_of}
use Rattle.fvn_rewrite_rules.specs.declared.rule.Rule.{Rule}
use Rattle.fvn_rewrite_rules.specs.Given.{RuleLists, headed}
use Rattle.fvn_places.specs.Paths.{LeadsTo}
use Rattle.fvn_narrow.specs.inner.Turns.{Try, IsTryOf}
use Rattle.fvn_narrow.specs.declared.placing.Place.{Place}

-- one of the places has the form
abbrev pub HasPlace : List Place → FlatTerm → Type 0
HasPlace places at = (place : Place) × Contains places place × (place.at.now ≡ at)

-- what is tried at one of the places, by a rule that is needed there
abbrev pub IsTryIn : RuleLists → List Place → Try → Type 0
IsTryIn rules places try = (place : Place) × Contains places place × IsTryOf place.at.now (headed rules place.head) try

-- a rule is needed under the form's head
pub record IsNeeded (rules : RuleLists) (at : FlatTerm) : Type 0 where
  pub operator : OpId
  pub heads : head_of at ≡ Some operator
  pub rule : Rule
  pub listed : Contains (headed rules operator) rule

module _ (terms : List FlatTerm) where
  -- the path leads to the form in one of the terms
  pub record StandsAt (member : ℕ) (path : List ℕ) (at : FlatTerm) : Type 0 where
    pub term : FlatTerm
    pub is : slice_get terms member ≡ Some term
    pub leads : LeadsTo path term at

  -- some path leads to it
  abbrev pub StandsIn : ℕ → FlatTerm → Type 0
  StandsIn member at = (path : List ℕ) × StandsAt member path at

  -- in one of so many of the terms
  abbrev pub StandsAmong : ℕ → FlatTerm → Type 0
  StandsAmong count at = (member : ℕ) × (member < count) × StandsIn member at

  -- the place's path leads to its form, which has its head
  pub record IsPlaceIn (place : Place) : Type 0 where
    pub stands : StandsAt place.member place.path place.at.now
    pub heads : head_of place.at.now ≡ Some place.head

module _ (rules : RuleLists) (terms : List FlatTerm) where
  -- The places before are still there, the new ones are places in the terms, and each of these forms under whose head a
  -- rule is needed has one.
  pub record ArePlacesWith (Covered : FlatTerm → Type 0) (before all : List Place) : Type 0 where
    pub sound : All (IsPlaceIn terms) before → All (IsPlaceIn terms) all
    pub kept : (at : FlatTerm) → HasPlace before at → HasPlace all at
    pub enough : (at : FlatTerm) → Covered at → IsNeeded rules at → HasPlace all at

  -- they are places in the terms, and each form in these under whose head a rule is needed has one
  pub record ArePlaces (places : List Place) : Type 0 where
    pub sound : All (IsPlaceIn terms) places
    pub enough : (member : ℕ) (at : FlatTerm) → StandsIn terms member at → IsNeeded rules at → HasPlace places at
