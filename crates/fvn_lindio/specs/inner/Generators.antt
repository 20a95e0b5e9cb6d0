-- The points with which a row is searched.
use Rattle.std.specs.Prelude.{◌≡◌, ◌≢◌, ℕ, ◌*◌, ◌<◌, ◌≤◌, ◌⊎◌, ℤ, pos, List, length, map, replicate, slice_index_or, slice_set, unsigned_abs, All, Contains}
use Rattle.fvn_base.specs.declared.limits.TheConstants.{COLUMNS, COMPONENT}
use Rattle.smallvec.specs.SmallVec.{SmallVec}
use Rattle.fvn_lindio.specs.Systems.{IsUnused}
use Rattle.fvn_lindio.specs.inner.Search.{IsValue}
use Rattle.fvn_lindio.specs.declared.level.Point.{Point}

-- the vectors that the search keeps
abbrev pub vectors_in : List (SmallVec ℕ) → List (List ℕ)
vectors_in known = map (λ v. v.items) known

-- a row of so many columns that the system allows
pub record IsRow (columns : ℕ) (row : List ℤ) : Type 0 where
  pub sized : length row ≡ columns
  pub few : columns ≤ COLUMNS
  pub bounded : All (λ c. unsigned_abs c ≤ COMPONENT) row

-- the value is that of the row, and no further from zero than it can be
pub record IsValued (row : List ℤ) (p : Point) : Type 0 where
  pub exact : IsValue row p.parts.items p.value
  pub bounded : unsigned_abs p.value ≤ COLUMNS * COMPONENT * COMPONENT

-- the points are exactly the vectors with the property, with their values
pub record Values (row : List ℤ) (P : List ℕ → Type 0) (points : List Point) : Type 0 where
  pub each : (p : Point) → Contains points p → P p.parts.items × IsValued row p
  pub stands : (v : List ℕ) → P v → (p : Point) × Contains points p × (p.parts.items ≡ v)

-- the vector with 1 in one column, which this row uses and none before
abbrev pub IsNewUnit : ℕ → List (List ℤ) → List ℤ → ℕ → List ℕ → Type 0
IsNewUnit columns before row j v =
    IsUnused before j × (slice_index_or row j (pos 0) ≢ pos 0) × (v ≡ slice_set (replicate columns 0) j 1)

-- such a vector for one of the first n columns
abbrev pub IsNewUnitBelow : ℕ → List (List ℤ) → List ℤ → ℕ → List ℕ → Type 0
IsNewUnitBelow columns before row n v = (j : ℕ) × (j < n) × IsNewUnit columns before row j v

-- the points have become more by exactly the vectors with the property, with their values
pub record Adds (row : List ℤ) (P : List ℕ → Type 0) (old new : List Point) : Type 0 where
  pub stays : (p : Point) → Contains old p → Contains new p
  pub each : (p : Point) → Contains new p → Contains old p ⊎ P p.parts.items × IsValued row p
  pub stands : (v : List ℕ) → P v → (p : Point) × Contains new p × (p.parts.items ≡ v)
