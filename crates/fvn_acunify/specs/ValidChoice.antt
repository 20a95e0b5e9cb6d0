-- Which choices of solutions are valid: a choice is a number whose bit i says that solution i is chosen.
-- M. E. Stickel, A unification algorithm for associative-commutative functions, 1981.
use Rattle.std.specs.Prelude.{◌≡◌, ℕ, ◌/◌, ◌%◌, ◌^◌, ◌<◌, ◌≤◌, ◌==◌, Bool, true, false, if◌then◌else◌, List, [], ◌∷◌, length, sum_by, count_by, nat_lt, slice_index, slice_index_or, Option, Some, All}
use Rattle.fvn_acunify.specs.declared.theory.ColumnBounds.{ColumnBounds}

-- the solutions that a number chooses
abbrev pub chosen : ℕ → List (List ℕ) → List (List ℕ)
chosen b [] = []
chosen b (v ∷ basis) = if b % 2 == 1 then v ∷ chosen (b / 2) basis else chosen (b / 2) basis

-- what these vectors have in a column, all together
abbrev pub column_sum : ℕ → List (List ℕ) → ℕ
column_sum j list = sum_by (λ v. slice_index v j) list

-- in how many of these columns a vector is other than zero
abbrev pub touched : List ℕ → List ℕ → ℕ
touched columns v = count_by (λ c. nat_lt 0 (slice_index v c)) columns

-- the sum of the solutions chosen is above zero in every column that may not be zero, and 1 in every
-- constant column, and none of them is other than zero in two constant columns
pub record IsValid (constants : List ℕ) (may_be_zero : List Bool) (basis : List (List ℕ)) (b : ℕ) : Type 0 where
  pub within : b < 2 ^ length basis
  pub filled : (j : ℕ) → slice_index_or may_be_zero j true ≡ false → 0 < column_sum j (chosen b basis)
  pub once : All (λ c. column_sum c (chosen b basis) ≡ 1) constants
  pub apart : All (λ v. touched constants v ≤ 1) (chosen b basis)

-- the choice takes every solution that is zero in all constant columns, and in all of these others
abbrev pub IsFull : (constants others : List ℕ) → List (List ℕ) → ℕ → Type 0
IsFull constants others basis b = (i : ℕ) → i < length basis → touched constants (slice_index_or basis i []) ≡ 0 → touched others (slice_index_or basis i []) ≡ 0 → b / 2 ^ i % 2 ≡ 1

-- the sum of the solutions chosen is at most 1, and at least 1, in the columns where these bounds say so
pub record IsWithin (bounds : ColumnBounds) (basis : List (List ℕ)) (b : ℕ) : Type 0 where
  pub most : All (λ j. column_sum j (chosen b basis) ≤ 1) bounds.at_most_one
  pub least : All (λ j. 0 < column_sum j (chosen b basis)) bounds.at_least_one

-- a valid choice within the bounds; where full ones alone are asked for, with some other columns, a full one
pub record IsListed (full : Option (List ℕ)) (constants : List ℕ) (may_be_zero : List Bool) (bounds : ColumnBounds) (basis : List (List ℕ)) (b : ℕ) : Type 0 where
  pub valid : IsValid constants may_be_zero basis b
  pub bounded : IsWithin bounds basis b
  pub whole : (others : List ℕ) → full ≡ Some others → IsFull constants others basis b
