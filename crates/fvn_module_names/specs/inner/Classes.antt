-- Classes of numbers, each number with the label of its class.
use Rattle.std.specs.Prelude.{◌≡◌, ◌<◌, ◌⊎◌, ℕ, List, [], length, slice_index_or, Contains}

-- the label of a number
abbrev pub label : List ℕ → ℕ → ℕ
label labels i = slice_index_or labels i 0

-- two numbers are in one class
abbrev pub AreAlike : List ℕ → ℕ → ℕ → Type 0
AreAlike labels i j = label labels i ≡ label labels j

-- each label is a number, and its members are listed
pub record IsClassed (labels : List ℕ) (members : List (List ℕ)) : Type 0 where
  pub as_many : length members ≡ length labels
  pub in_range : (i : ℕ) → i < length labels → label labels i < length labels
  pub listed : (i : ℕ) → i < length labels → Contains (slice_index_or members (label labels i) []) i
  pub only : (l i : ℕ) → Contains (slice_index_or members l []) i → (i < length labels) × (label labels i ≡ l)

-- the numbers that are listed have this label, and the others what they had
pub record IsRelabelled (old new those : List ℕ) (one : ℕ) : Type 0 where
  pub as_long : length new ≡ length old
  pub listed : (i : ℕ) → Contains those i → label new i ≡ one
  pub others : (i : ℕ) → (Contains those i → ⊥) → label new i ≡ label old i

-- numbers with the one label have the other, and the others what they had
pub record IsMerged (old new : List ℕ) (from into : ℕ) : Type 0 where
  pub as_long : length new ≡ length old
  pub moved : (i : ℕ) → i < length old → label old i ≡ from → label new i ≡ into
  pub others : (i : ℕ) → i < length old → (label old i ≡ from → ⊥) → label new i ≡ label old i

-- the classes of two numbers are put together
pub record IsJoin (old new : List ℕ) (a b : ℕ) : Type 0 where
  pub as_long : length new ≡ length old
  pub joined : AreAlike new a b
  pub kept : (i j : ℕ) → i < length old → j < length old → AreAlike old i j → AreAlike new i j
  pub only : (i j : ℕ) → i < length old → j < length old → AreAlike new i j →
      AreAlike old i j ⊎ ((AreAlike old i a × AreAlike old j b) ⊎ (AreAlike old i b × AreAlike old j a))
