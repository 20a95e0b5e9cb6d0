-- Children of the members of a level, and which of them are kept for the next.
use Rattle.std.specs.Prelude.{◌≡◌, ◌≢◌, ◌≤◌, ◌⊎◌, Bool, true, false, List, [], ◌∷◌, ◌++◌, All, AllPairs, Any, Contains}
use Rattle.fvn_terms.specs.declared.declarations.Declarations.{Declarations}
use Rattle.fvn_terms.specs.declared.plain.Var.{Var}
use Rattle.fvn_terms.specs.Substitution.{Substitution, Occurs}
use Rattle.fvn_terms.specs.Unifiers.{Problem}
use Rattle.fvn_terms.specs.CompleteSets.{IsApart}
use Rattle.fvn_cover.specs.declared.variant.Variant.{Variant}
use Rattle.fvn_cover.specs.Covering.{CoversVariant, AreAlike}
use Rattle.fvn_cover.specs.Pruning.{IsCoveredBySome}
use Rattle.fvn_cover.specs.Adding.{IsAdded}
use Rattle.fvn_cover.specs.declared.marking.TheConstants.{WORKERS}
use Rattle.fvn_exploring.specs.declared.limits.Limits.{Limits}
use Rattle.fvn_exploring.specs.declared.ends.Expansion.{Expansion}
use Rattle.fvn_exploring.specs.declared.ends.ExpandEnd.{ExpandEnd}
use Rattle.fvn_exploring.specs.declared.ends.ExpandEnd.TheVariants.{Whole}
use Rattle.fvn_exploring.specs.Setting.{Setting}
use Rattle.fvn_exploring.specs.Children.{IsMember, IsChild}
use Rattle.fvn_exploring.specs.Liftings.{LiftsInto}
use Rattle.fvn_exploring.specs.Expansions.{IsExpandCause}
use Rattle.fvn_fold.specs.Starts.{IsSettingIn}

-- v is covered by one of the first, or by one of the second
abbrev pub IsCoveredByEither : Declarations → List Variant → List Variant → Variant → Type 0
IsCoveredByEither d kept next v = IsCoveredBySome d kept v ⊎ IsCoveredBySome d next v

-- an exploration with these limits in the signature, by an expander with this setting
pub record IsTask (g : Setting) (d : Declarations) (limits : Limits) : Type 0 where
  pub setting : IsSettingIn g d
  pub some_workers : 1 ≤ limits.workers
  pub few_workers : limits.workers ≤ WORKERS

-- what every kept variant keeps, and which first one all are alike; the fixed terms are over its variables
pub record AreReady (g : Setting) (kept : List Variant) : Type 0 where
  pub first : Variant
  pub once : AllPairs (λ x y. x ≢ y) first.vars
  pub fixed : All (λ t. (y : Var) → Occurs y t → Contains first.vars y) g.fixed
  pub alike : All (AreAlike first) kept
  pub members : All (IsMember g) kept

-- Of the members' children these were taken, and this is the first end that is not Whole, if there is one.
pub record AreGathered (g : Setting) (drawn : Problem → Substitution → Type 0) (members candidates : List Variant)
    (end : ExpandEnd) : Type 0 where
  pub children : All (λ c. Any (λ m. IsChild g drawn m c) members) candidates
  pub whole : end ≡ Whole → All (λ m. LiftsInto g m (Contains candidates)) members
  pub cause : (end ≡ Whole) ⊎ Any (λ m. IsExpandCause g drawn m end) members

-- the children of all expansions, in their order
abbrev pub all_children : List Expansion → List Variant
all_children [] = []
all_children (e ∷ es) = e.children ++ all_children es

-- whether expansions end with Whole
abbrev pub AreWhole : List Expansion → Type 0
AreWhole es = All (λ e. e.end ≡ Whole) es

-- the children of all, which are Whole; or of those up to the first that is not, and its end
abbrev pub IsGatheredFrom : List Expansion → List Variant → ExpandEnd → Type 0
IsGatheredFrom es candidates end =
    (AreWhole es × (candidates ≡ all_children es) × (end ≡ Whole))
    ⊎ ((before : List Expansion) × (e : Expansion) × (after : List Expansion) × (es ≡ before ++ e ∷ after)
    × (candidates ≡ all_children (before ++ e ∷ [])) × (end ≡ e.end) × (end ≢ Whole))

-- a marked candidate changes nothing, another one is added
abbrev pub IsMarkedOrAdded : Declarations → Bool → List Variant → Variant → List Variant → Type 0
IsMarkedOrAdded d true before candidate after = after ≡ before
IsMarkedOrAdded d false before candidate after = IsAdded d before candidate after

-- Of the candidates that no kept variant covers each is now covered by one that was there or by one of them.
pub record AreTaken (d : Declarations) (kept before candidates after : List Variant) : Type 0 where
  pub each : All (λ w. Contains before w ⊎ (Contains candidates w × (IsCoveredBySome d kept w → ⊥))) after
  pub apart : IsApart (CoversVariant d) after
  pub still : (v : Variant) → IsCoveredBySome d before v → IsCoveredBySome d after v
  pub covered : All (IsCoveredByEither d kept after) candidates

-- children of the members that no kept variant covers, none covering another
pub record AreNext (g : Setting) (drawn : Problem → Substitution → Type 0) (kept members next : List Variant) : Type 0
  where
    pub children : All (λ w. Any (λ m. IsChild g drawn m w) members) next
    pub uncovered : All (λ w. IsCoveredBySome g.declarations kept w → ⊥) next
    pub apart : IsApart (CoversVariant g.declarations) next

-- What more members of a level add to the next level.
pub record IsMoreOfLevel (g : Setting) (drawn : Problem → Substitution → Type 0) (kept members before next : List Variant)
    (end : ExpandEnd) : Type 0 where
  pub each : All (λ w. Contains before w ⊎ (Any (λ m. IsChild g drawn m w) members × (IsCoveredBySome g.declarations kept w → ⊥))) next
  pub apart : IsApart (CoversVariant g.declarations) next
  pub still : (v : Variant) → IsCoveredBySome g.declarations before v → IsCoveredBySome g.declarations next v
  pub whole : end ≡ Whole → All (λ m. LiftsInto g m (IsCoveredByEither g.declarations kept next)) members
  pub cause : (end ≡ Whole) ⊎ Any (λ m. IsExpandCause g drawn m end) members

-- The next level of a level: at Whole each member lifts into a variant that a kept or a next one covers.
pub record IsNextLevel (g : Setting) (drawn : Problem → Substitution → Type 0) (kept members next : List Variant)
    (end : ExpandEnd) : Type 0 where
  pub is_next : AreNext g drawn kept members next
  pub whole : end ≡ Whole → All (λ m. LiftsInto g m (IsCoveredByEither g.declarations kept next)) members
  pub cause : (end ≡ Whole) ⊎ Any (λ m. IsExpandCause g drawn m end) members
