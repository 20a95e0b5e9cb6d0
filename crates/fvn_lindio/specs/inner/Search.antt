-- What the search for the minimal solutions of one more row goes over.
use Rattle.std.specs.Prelude.{◌≡◌, ℕ, ◌+◌, ◌<◌, ◌⊎◌, ℤ, List, length, slice_index, All}
use Rattle.fvn_lindio.specs.Systems.{above, below, up, down, IsZeroAt, IsUnused}

-- the value of the row at x
abbrev pub IsValue : List ℤ → List ℕ → ℤ → Type 0
IsValue row x value = above value + down row x ≡ up row x + below value

-- one is above zero, and the other below
abbrev pub IsOpposite : ℤ → ℤ → Type 0
IsOpposite a b = (0 < above a) × (0 < below b) ⊎ (0 < below a) × (0 < above b)

-- a vector of so many columns at which these rows are zero, and which is zero where those rows use no column
pub record Lies (columns : ℕ) (rows used : List (List ℤ)) (x : List ℕ) : Type 0 where
  pub sized : length x ≡ columns
  pub zero_rows : All (IsZeroAt x) rows
  pub unused : (j : ℕ) → IsUnused used j → slice_index x j ≡ 0
