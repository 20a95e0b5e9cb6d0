-- Tags under which a class is a single summand of an operator that no minimal solution has once and alone.
use Rattle.std.specs.Prelude.{◌≡◌, ◌≢◌, ◌⊎◌, ℕ, ◌<◌, true, false, List, [], length, slice_get, slice_index, slice_index_or, Option, Some, All, Any, Contains}
use Rattle.fvn_terms.specs.declared.plain.OpId.{OpId}
use Rattle.fvn_lindio.specs.declared.system.Solution.{Solution}
use Rattle.fvn_combine_leaves.specs.Users.{head_of}
use Rattle.fvn_combine_leaves.specs.declared.reading.Sums.{Sums}
use Rattle.fvn_combine_leaves.specs.declared.reading.Reading.{Reading}
use Rattle.fvn_combine_drawing.specs.CombineAdmissibleListed.{tag_in}
use Rattle.fvn_combine_drawing.specs.CombineCandidatesDeclared.sharing.SharedClass.{SharedClass}

-- column j is that of class k, and marked as used
pub record IsMarkedAt (e : Sums) (k j : ℕ) : Type 0 where
  pub within : j < length e.columns
  pub class : slice_index e.columns j ≡ k
  pub used : slice_index_or e.used j false ≡ true

-- another operator than f is read as what heads class k
abbrev pub HasOtherHead : Reading → OpId → ℕ → Type 0
HasOtherHead r f k = (g : OpId) × (head_of r k ≡ Some g) × (g ≢ f)

-- Shared classes whose tags are decided.
module _ (decided : List SharedClass) (tags : List (Option OpId)) where
  -- class k is one of them, and f is not its tag
  abbrev pub HasOtherTag : OpId → ℕ → Type 0
  HasOtherTag f k = (c : SharedClass) × Contains decided c × (c.class ≡ k) × (tag_in tags k ≢ Some f)

  module _ (r : Reading) (e : Sums) where
    -- a solution has the class of column i, which is marked as used, and a single summand by its head or its tag
    pub record HasConstant (parts : List ℕ) (i : ℕ) : Type 0 where
      pub some : 0 < slice_index parts i
      pub used : slice_index_or e.used i false ≡ true
      pub why : HasOtherHead r e.operator (slice_index e.columns i) ⊎ HasOtherTag e.operator (slice_index e.columns i)

    -- so it does in another column than j
    pub record HasConstantBeside (parts : List ℕ) (j : ℕ) : Type 0 where
      pub column : ℕ
      pub within : column < length e.columns
      pub other : column ≢ j
      pub constant : HasConstant parts column

    -- where the solution has column j once, it has such a class beside it
    abbrev pub IsNoHome : ℕ → Solution → Type 0
    IsNoHome j v = slice_index v.parts j ≡ 1 → HasConstantBeside v.parts j

    -- the operator uses the class and is not its tag, and no solution has it once and no such class beside it
    pub record IsHomeless (basis : List Solution) (c : SharedClass) : Type 0 where
      pub column : ℕ
      pub marked : IsMarkedAt e c.class column
      pub other : tag_in tags c.class ≢ Some e.operator
      pub none : All (IsNoHome column) basis

    -- so is one of the classes
    abbrev pub HasHomeless : List Solution → Type 0
    HasHomeless basis = Any (IsHomeless basis) decided

  -- so it is with an operator and its minimal solutions
  pub record LeaveHomeless (r : Reading) (bases : List (List Solution)) : Type 0 where
    pub place : ℕ
    pub entry : Sums
    pub is : slice_get r.sums place ≡ Some entry
    pub homeless : HasHomeless r entry (slice_index_or bases place [])
