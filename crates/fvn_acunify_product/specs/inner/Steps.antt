-- One step of an odometer: the last place that can moves, and those after it start again.
use Rattle.std.specs.Prelude.{◌≡◌, ℕ, ◌<◌, ◌≤◌, List, length, slice_index, slice_index_or}
use Rattle.std.specs.List.{AllZip}
use Rattle.fvn_base.specs.Order.{IsBefore}
use Rattle.fvn_acunify.specs.Cursor.{Cursor}
use Rattle.fvn_acunify_product.specs.ToCome.{IsGreatest}

-- from one place to another each cursor has given the number of its place
abbrev pub Stand : List Cursor → List ℕ → ℕ → ℕ → Type 0
Stand cursors numbers from end = (k : ℕ) (c : Cursor) → from ≤ k → k < end → (slice_index_or cursors k c).below ≡ slice_index numbers k

module _ {A : Type 0} (May : A → ℕ → Type 0) (places : List A) where
  -- no number may stand at the place
  abbrev pub IsBare : ℕ → Type 0
  IsBare k = (d : A) (a : ℕ) → May (slice_index_or places k d) a → ⊥

  -- the place has the greatest number that may stand there
  abbrev pub IsTop : List ℕ → ℕ → Type 0
  IsTop numbers k = (d : A) → May (slice_index_or places k d) (slice_index numbers k) × ((a : ℕ) → May (slice_index_or places k d) a → a ≤ slice_index numbers k)

  -- no number below the one at the place may stand there
  abbrev pub IsLast : List ℕ → ℕ → Type 0
  IsLast numbers k = (d : A) (a : ℕ) → May (slice_index_or places k d) a → slice_index numbers k ≤ a

  -- the places from this one on have their greatest numbers, and those before it have what they had
  pub record IsRestarted (from : ℕ) (old new : List ℕ) : Type 0 where
    pub front : (k : ℕ) → k < from → slice_index new k ≡ slice_index old k
    pub tops : (k : ℕ) → from ≤ k → k < length places → IsTop new k

  -- the place has its next number, those after it had no other, and those before it have what they had
  pub record IsMoved (place : ℕ) (old new : List ℕ) : Type 0 where
    pub within : place < length places
    pub front : (k : ℕ) → k < place → slice_index new k ≡ slice_index old k
    pub falls : slice_index new place < slice_index old place
    pub may : (d : A) → May (slice_index_or places place d) (slice_index new place)
    pub next : (d : A) (a : ℕ) → May (slice_index_or places place d) a → a < slice_index old place → a ≤ slice_index new place
    pub last : (k : ℕ) → place < k → k < length places → IsLast old k

  -- the new list is the greatest before the old one
  abbrev pub IsNext : List ℕ → List ℕ → Type 0
  IsNext old new = IsGreatest (λ x. AllZip May places x × IsBefore x old) new

  -- no list comes before this one
  abbrev pub IsEnd : List ℕ → Type 0
  IsEnd old = (x : List ℕ) → AllZip May places x → IsBefore x old → ⊥
