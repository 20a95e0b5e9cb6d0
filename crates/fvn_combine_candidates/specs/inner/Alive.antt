-- Minimal solutions that are alive: systems with a row more, which asks of solutions that they are zero in marked columns.
use Rattle.std.specs.Prelude.{◌≡◌, ◌≢◌, ◌⊎◌, ◌↔◌, ℕ, ◌<◌, ◌≤◌, ◌++◌, ℤ, pos, List, [], ◌∷◌, length, reverse, slice_get, slice_index, slice_index_or, Option, Some, None, All, AllPairs, Contains}
use Rattle.fvn_base.specs.declared.limits.TheConstants.{COMPONENT}
use Rattle.fvn_base.specs.Order.{IsBefore}
use Rattle.fvn_terms.specs.declared.plain.OpId.{OpId}
use Rattle.fvn_terms.specs.declared.declarations.Declarations.{Declarations}
use Rattle.fvn_lindio.specs.declared.system.System.{System}
use Rattle.fvn_lindio.specs.declared.system.Row.{Row}
use Rattle.fvn_lindio.specs.declared.system.Solution.{Solution}
use Rattle.fvn_lindio.specs.Systems.{IsZeroAt, IsMinimal, coefficients_of, rows_of, vectors_of}
use Rattle.fvn_combine_nodes.specs.Table.{NodeTable}
use Rattle.fvn_combine_nodes.specs.States.{IsOpen}
use Rattle.fvn_combine_nodes.specs.declared.state.State.{State}
use Rattle.fvn_combine_leaves.specs.Bases.{IsBasis}
use Rattle.fvn_combine_leaves.specs.Leaves.{IsAlive}
use Rattle.fvn_combine_leaves.specs.declared.reading.Sums.{Sums}

-- an operator other than f is read as the head of class k
pub record IsOtherHead (heads : List (Option OpId)) (f : OpId) (k : ℕ) (head : OpId) : Type 0 where
  pub read : slice_index_or heads k None ≡ Some head
  pub other : head ≢ f

-- by the heads that are read the classes are single summands in the sums of f, and it is told that they differ
pub record AreKnownApart (s : State) (heads : List (Option OpId)) (f : OpId) (k l : ℕ) : Type 0 where
  pub first : OpId
  pub second : OpId
  pub heads_first : IsOtherHead heads f k first
  pub heads_second : IsOtherHead heads f l second
  pub differ : k ≢ l
  pub told : (first ≢ second) ⊎ (IsOpen s k l → ⊥)

-- a row that marks some of so many columns by 1, and has 0 in the others: a solution is zero at it where it is zero in those that are marked
pub record IsMarking (columns : ℕ) (row : List ℤ) : Type 0 where
  pub sized : length row ≡ columns
  pub marks : All (λ c. (c ≡ pos 0) ⊎ (c ≡ pos 1)) row

-- the system with a row more, and its own from the last to the first
pub record IsMarked (s : System) (row : Row) (t : System) : Type 0 where
  pub columns : t.columns ≡ s.columns
  pub rows : t.rows ≡ (row ∷ []) ++ reverse s.rows

-- exactly the minimal solutions that are zero at a row
pub record AreZeroAt (s : System) (row : List ℤ) (basis : List Solution) : Type 0 where
  pub exact : (v : List ℕ) → Contains (vectors_of basis) v ↔ IsMinimal s.columns (rows_of s) v × IsZeroAt v row
  pub narrow : All (All (λ a. a ≤ COMPONENT)) (vectors_of basis)

-- minimal solutions in order, with all that are zero at one of the first n rows
pub record AreGathered (s : System) (rows : List Row) (n : ℕ) (list : List Solution) : Type 0 where
  pub minimal : (v : List ℕ) → Contains (vectors_of list) v → IsMinimal s.columns (rows_of s) v
  pub ordered : AllPairs IsBefore (vectors_of list)
  pub narrow : All (All (λ a. a ≤ COMPONENT)) (vectors_of list)
  pub all : (i : ℕ) (row : Row) → i < n → slice_get rows i ≡ Some row → (v : List ℕ) → IsMinimal s.columns (rows_of s) v → IsZeroAt v row.coefficients → Contains (vectors_of list) v

module _ (s : State) (heads : List (Option OpId)) (e : Sums) where
  -- the marked columns are of classes that are known to differ from class k
  abbrev pub IsApartFrom : ℕ → List ℤ → Type 0
  IsApartFrom k row = (j : ℕ) → j < length e.columns → slice_index_or row j (pos 0) ≡ pos 1 → AreKnownApart s heads e.operator k (slice_index e.columns j)

  -- of no two columns that a solution has is it known that their classes differ
  abbrev pub IsAliveBy : List ℕ → Type 0
  IsAliveBy v = (i j : ℕ) → i < length e.columns → j < length e.columns → 0 < slice_index v i → 0 < slice_index v j
      → AreKnownApart s heads e.operator (slice_index e.columns i) (slice_index e.columns j) → ⊥

  -- a row among these that marks none but columns of classes that are known to differ from class k
  pub record HasRowFor (rows : List Row) (k : ℕ) : Type 0 where
    pub row : Row
    pub listed : Contains rows row
    pub marking : IsMarking (length e.columns) row.coefficients
    pub apart : IsApartFrom k row.coefficients

  -- a first row that marks columns, and a row for each marked one among the first n
  pub record AreRowsBelow (first : Row) (n : ℕ) (rows : List Row) : Type 0 where
    pub listed : Contains rows first
    pub markings : All (λ row. IsMarking (length e.columns) row.coefficients) rows
    pub each : (i : ℕ) → i < n → slice_index_or first.coefficients i (pos 0) ≡ pos 1 → HasRowFor rows (slice_index e.columns i)

  -- each solution that is alive is zero at one of the rows
  pub record AreCovering (rows : List Row) : Type 0 where
    pub markings : All (λ row. IsMarking (length e.columns) row.coefficients) rows
    pub covers : (v : List ℕ) → length v ≡ length e.columns → IsAliveBy v → (row : Row) × Contains rows row × IsZeroAt v row.coefficients

  -- minimal solutions, among them all that are alive
  pub record IsBasisBy (basis : List Solution) : Type 0 where
    pub is_basis : IsBasis e.system basis
    pub alive : (v : List ℕ) → IsMinimal e.system.columns (rows_of e.system) v → IsAliveBy v → Contains (vectors_of basis) v

-- all minimal solutions
pub record IsWholeBasis (s : System) (basis : List Solution) : Type 0 where
  pub is_basis : IsBasis s basis
  pub all : (v : List ℕ) → IsMinimal s.columns (rows_of s) v → Contains (vectors_of basis) v

-- minimal solutions of a sum operator's system, none of which is left out that is alive
pub record IsAliveBasis (d : Declarations) (t : NodeTable) (s : State) (e : Sums) (basis : List Solution) : Type 0 where
  pub is_basis : IsBasis e.system basis
  pub alive : (v : List ℕ) → IsMinimal e.system.columns (rows_of e.system) v → IsAlive d t s e.operator e.columns v → Contains (vectors_of basis) v
