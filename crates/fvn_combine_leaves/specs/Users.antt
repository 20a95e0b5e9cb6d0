-- Which operators of a reading use a class, and which classes may stand as constants.
use Rattle.std.specs.Prelude.{◌≡◌, ◌≢◌, ℕ, ◌<◌, ◌≤◌, true, false, List, length, slice_get, slice_index, slice_index_or, Option, Some, None, All, Contains}
use Rattle.fvn_terms.specs.declared.plain.OpId.{OpId}
use Rattle.fvn_terms.specs.declared.declarations.Declarations.{Declarations}
use Rattle.fvn_terms.specs.Signature.{axioms}
use Rattle.fvn_terms.specs.Equality.{identity}
use Rattle.fvn_combine_leaves.specs.declared.reading.Sums.{Sums}
use Rattle.fvn_combine_leaves.specs.declared.reading.Reading.{Reading}

-- one mark a column, and the columns are among n nodes
pub record IsWholeSums (n : ℕ) (s : Sums) : Type 0 where
  pub marked : length s.used ≡ length s.columns
  pub within : All (λ c. c < n) s.columns

-- so are all, and there is one head a node
pub record IsWhole (n : ℕ) (r : Reading) : Type 0 where
  pub sums : All (IsWholeSums n) r.sums
  pub heads : length r.heads ≡ n

-- a column of class k is marked as used
abbrev pub IsMarked : Sums → ℕ → Type 0
IsMarked s k = (j : ℕ) × (j < length s.columns) × (slice_index s.columns j ≡ k) × (slice_index_or s.used j false ≡ true)

-- operator i of the list uses class k
pub record IsUserAt (sums : List Sums) (i k : ℕ) : Type 0 where
  pub entry : Sums
  pub is : slice_get sums i ≡ Some entry
  pub uses : IsMarked entry k

-- the first place from start on at which an operator uses class k; none where none does
abbrev pub IsFirstUser : List Sums → ℕ → ℕ → Option ℕ → Type 0
IsFirstUser sums start k None = (i : ℕ) → start ≤ i → IsUserAt sums i k → ⊥
IsFirstUser sums start k (Some n) = (start ≤ n) × (n < length sums) × IsUserAt sums n k × ((i : ℕ) → start ≤ i → i < n → IsUserAt sums i k → ⊥)

-- operators at two places use class k
pub record HasTwoUsers (sums : List Sums) (k : ℕ) : Type 0 where
  pub first : ℕ
  pub second : ℕ
  pub before : first < second
  pub uses_first : IsUserAt sums first k
  pub uses_second : IsUserAt sums second k

-- the operator is another one than f, has the same identity, or none as f, and uses class k
pub record IsTwin (d : Declarations) (f : OpId) (k : ℕ) (s : Sums) : Type 0 where
  pub other : s.operator ≢ f
  pub same : identity (axioms d s.operator) ≡ identity (axioms d f)
  pub uses : IsMarked s k

-- an operator of the list is so
pub record HasTwinIn (d : Declarations) (sums : List Sums) (f : OpId) (k : ℕ) : Type 0 where
  pub entry : Sums
  pub listed : Contains sums entry
  pub twin : IsTwin d f k entry

-- the head that is noted of class k
abbrev pub head_of : Reading → ℕ → Option OpId
head_of r k = slice_index_or r.heads k None

-- class k has no head and two users
abbrev pub IsSharedIn : Reading → ℕ → Type 0
IsSharedIn r k = (head_of r k ≡ None) × HasTwoUsers r.sums k

-- with this head a class may be a constant of f, if it is used
abbrev pub CanStand : Reading → OpId → ℕ → Option OpId → Type 0
CanStand r f k None = HasTwoUsers r.sums k
CanStand r f k (Some g) = g ≢ f

-- class k may be a constant of the operator
abbrev pub CanBeConstant : Reading → Sums → ℕ → Type 0
CanBeConstant r s k = IsMarked s k × CanStand r s.operator k (head_of r k)

-- different heads are noted of the classes
abbrev pub HaveHeads : Reading → ℕ → ℕ → Type 0
HaveHeads r k l = (f : OpId) × (g : OpId) × (head_of r k ≡ Some f) × (head_of r l ≡ Some g) × (f ≢ g)
