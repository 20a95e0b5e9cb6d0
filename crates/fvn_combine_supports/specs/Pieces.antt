-- Counts that are made up of pieces: flat forms that stand for solutions of a sum system.
use Rattle.std.specs.Prelude.{◌≡◌, ◌≢◌, ℕ, ◌+◌, ◌*◌, ◌<◌, ◌≤◌, Bool, true, false, if◌then◌else◌, List, [], ◌∷◌, length, map, slice_index, slice_index_or, AllPairs, Contains}
use Rattle.fvn_forms.specs.Flat.{FlatTerm}
use Rattle.fvn_forms.specs.Order.{same_flat}
use Rattle.fvn_forms.specs.InOrder.{one_if, count}
use Rattle.fvn_lindio.specs.Laws.{combination}

-- whether the list has a member
abbrev pub has_some : List FlatTerm → Bool
has_some [] = false
has_some (t ∷ ts) = true

-- the number whose bit i says whether list i has a member
abbrev pub number_of : List (List FlatTerm) → ℕ
number_of [] = 0
number_of (z ∷ zs) = one_if (has_some z) + 2 * number_of zs

-- the vectors whose lists have members
abbrev pub taken : List (List FlatTerm) → List (List ℕ) → List (List ℕ)
taken [] basis = []
taken (z ∷ zs) [] = []
taken (z ∷ zs) (v ∷ basis) = if has_some z then v ∷ taken zs basis else taken zs basis

-- the lists that have members
abbrev pub some_of : List (List FlatTerm) → List (List FlatTerm)
some_of [] = []
some_of (z ∷ zs) = if has_some z then z ∷ some_of zs else some_of zs

-- for each vector the pieces that use it: what is counted of a flat form is each vector, as often as the form is among its pieces
pub record AreMadeUp (columns : ℕ) (basis : List (List ℕ)) (counted : FlatTerm → List ℕ) (pieces : List (List FlatTerm)) : Type 0 where
  pub as_many : length pieces ≡ length basis
  pub made_up : (q : FlatTerm) → combination columns (map (count q) pieces) basis ≡ counted q

-- the flat forms of all constant columns that the vector has are one
abbrev pub AreAlike : (constants vector : List ℕ) → (ℕ → FlatTerm) → Type 0
AreAlike constants v alone = (c e : ℕ) → Contains constants c → Contains constants e → 0 < slice_index v c → 0 < slice_index v e → alone c ≡ alone e

-- the vector has no constant column several times
abbrev pub HasOnce : (constants vector : List ℕ) → Type 0
HasOnce constants v = (c : ℕ) → Contains constants c → slice_index v c ≤ 1

-- what is counted meets what is asked of a choice
pub record Meets (constants : List ℕ) (may_be_zero : List Bool) (basis : List (List ℕ)) (counted : FlatTerm → List ℕ) (alone : ℕ → FlatTerm) : Type 0 where
  pub distinct : AllPairs ◌≢◌ constants
  -- in a constant column one flat form is counted, once
  pub once : (c : ℕ) → Contains constants c → (q : FlatTerm) → slice_index (counted q) c ≡ one_if (same_flat q (alone c))
  -- those of all constant columns that a vector has, each once, are one only where it has one such column
  pub different : (c e : ℕ) → Contains constants c → Contains constants e → c ≢ e → (v : List ℕ) → Contains basis v → 0 < slice_index v c → 0 < slice_index v e
      → AreAlike constants v alone → HasOnce constants v → ⊥
  -- in a column that may not be zero something is counted
  pub filled : (j : ℕ) → slice_index_or may_be_zero j true ≡ false → (q : FlatTerm) × (0 < slice_index (counted q) j)

-- a vector that is taken and has a constant column has it once, and its one piece is the flat form of the column
pub record StandAlone (constants : List ℕ) (basis : List (List ℕ)) (pieces : List (List FlatTerm)) (alone : ℕ → FlatTerm) : Type 0 where
  pub once : (i c : ℕ) → i < length basis → Contains constants c → has_some (slice_index_or pieces i []) ≡ true → 0 < slice_index (slice_index_or basis i []) c → slice_index (slice_index_or basis i []) c ≡ 1
  pub piece : (i c : ℕ) → i < length basis → Contains constants c → has_some (slice_index_or pieces i []) ≡ true → 0 < slice_index (slice_index_or basis i []) c → slice_index_or pieces i [] ≡ alone c ∷ []
