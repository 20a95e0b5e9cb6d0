-- Lists of vectors in order, a vector's place in one, and the least of some vectors.
use Rattle.std.specs.Prelude.{◌≡◌, ◌≢◌, ◌⊎◌, ◌↔◌, ℕ, ◌<◌, ◌≤◌, List, length, slice_index_or, All, AllPairs, Contains}
use Rattle.fvn_lindio.specs.Vectors.{IsAtOrBelow}
use Rattle.fvn_base.specs.Order.{IsBefore}
use Rattle.fvn_lindio.specs.declared.level.Point.{Point}

-- one of the points is at or below the vector, and not the vector itself
abbrev pub HasOther : List Point → List ℕ → Type 0
HasOther points v = (p : Point) × Contains points p × IsAtOrBelow p.parts.items v × (p.parts.items ≢ v)

-- the vector is one of the points', and no other of them is at or below it
abbrev pub IsLeast : List Point → List ℕ → Type 0
IsLeast points v = ((p : Point) × Contains points p × (p.parts.items ≡ v)) × (HasOther points v → ⊥)

-- all have equally many components
abbrev pub IsUniform : List Point → Type 0
IsUniform points = (p q : Point) → Contains points p → Contains points q → length p.parts.items ≡ length q.parts.items

-- exactly the vectors before this place of the list stand before v
pub record IsPlace (list : List (List ℕ)) (v : List ℕ) (place : ℕ) : Type 0 where
  pub within : place ≤ length list
  pub earlier : (k : ℕ) (d : List ℕ) → k < place → IsBefore (slice_index_or list k d) v
  pub here : (d : List ℕ) → place < length list → IsBefore (slice_index_or list place d) v → ⊥

-- v stands at this place of the list
abbrev pub StandsAt : List (List ℕ) → ℕ → List ℕ → Type 0
StandsAt list place v = (place < length list) × (slice_index_or list place v ≡ v)

-- the list has become more by exactly the vectors with the property
abbrev pub GrowsBy : (List ℕ → Type 0) → List (List ℕ) → List (List ℕ) → Type 0
GrowsBy P old new = (w : List ℕ) → Contains new w ↔ Contains old w ⊎ P w

-- vectors of so many columns in order
pub record IsOrderedOf (columns : ℕ) (list : List (List ℕ)) : Type 0 where
  pub sized : All (λ w. length w ≡ columns) list
  pub ordered : AllPairs IsBefore list
