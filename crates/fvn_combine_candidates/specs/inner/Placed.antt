-- Lists of vectors in order, and a vector's place in one.
use Rattle.std.specs.Prelude.{◌≡◌, ◌⊎◌, ◌↔◌, ℕ, ◌<◌, ◌≤◌, List, length, slice_index_or, All, AllPairs, Contains}
use Rattle.fvn_base.specs.Order.{IsBefore}

-- exactly the vectors before this place of the list stand before v
pub record IsPlace (list : List (List ℕ)) (v : List ℕ) (place : ℕ) : Type 0 where
  pub within : place ≤ length list
  pub earlier : (k : ℕ) (d : List ℕ) → k < place → IsBefore (slice_index_or list k d) v
  pub here : (d : List ℕ) → place < length list → IsBefore (slice_index_or list place d) v → ⊥

-- v stands at this place of the list
abbrev pub StandsAt : List (List ℕ) → ℕ → List ℕ → Type 0
StandsAt list place v = (place < length list) × (slice_index_or list place v ≡ v)

-- the list has become more by exactly the vectors with the property
abbrev pub GrowsBy : (List ℕ → Type 0) → List (List ℕ) → List (List ℕ) → Type 0
GrowsBy P old new = (w : List ℕ) → Contains new w ↔ Contains old w ⊎ P w

-- vectors of so many columns in order
pub record IsOrderedOf (columns : ℕ) (list : List (List ℕ)) : Type 0 where
  pub sized : All (λ w. length w ≡ columns) list
  pub ordered : AllPairs IsBefore list
