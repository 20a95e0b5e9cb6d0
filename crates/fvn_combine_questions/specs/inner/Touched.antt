-- Columns that a minimal solution has, solutions that stand for no summand, and questions on their classes that are past.
use Rattle.std.specs.Prelude.{◌≡◌, ◌≢◌, ◌⊎◌, ℕ, ◌<◌, List, [], length, slice_get, slice_index, slice_index_or, Option, Some, None, All, Contains}
use Rattle.fvn_terms.specs.declared.plain.OpId.{OpId}
use Rattle.fvn_terms.specs.declared.declarations.Declarations.{Declarations}
use Rattle.fvn_terms.specs.Signature.{axioms}
use Rattle.fvn_flat.specs.Partitions.{HasNoIdentity}
use Rattle.fvn_lindio.specs.declared.system.Solution.{Solution}
use Rattle.fvn_combine_nodes.specs.States.{IsOpen}
use Rattle.fvn_combine_nodes.specs.declared.state.State.{State}
use Rattle.fvn_combine_leaves.specs.declared.reading.Sums.{Sums}
use Rattle.fvn_combine_leaves.specs.declared.reading.Reading.{Reading}
use Rattle.fvn_combine_leaves.specs.Users.{IsMarked, IsSharedIn, head_of, CanBeConstant, HaveHeads}

-- each solution has one part a column
abbrev pub AreWide : ℕ → List Solution → Type 0
AreWide n basis = All (λ v. length v.parts ≡ n) basis

-- those of each operator have
abbrev pub AreAllWide : List Sums → List (List Solution) → Type 0
AreAllWide sums bases = (i : ℕ) (e : Sums) → slice_get sums i ≡ Some e → AreWide (length e.columns) (slice_index_or bases i [])

-- another operator than that of the sums is noted as the head of class k
abbrev pub HasOtherHead : Reading → Sums → ℕ → Type 0
HasOtherHead r e k = (g : OpId) × (head_of r k ≡ Some g) × (g ≢ e.operator)

-- f, which has an identity, is noted of class k
abbrev pub IsNotedIn : Declarations → List (Option OpId) → OpId → ℕ → Type 0
IsNotedIn d heads f k = (slice_index_or heads k None ≡ Some f) × (HasNoIdentity (axioms d f) → ⊥)

-- the solution has column i, whose class may be a constant, and is not noted as a sum by the operator
abbrev pub StandsIn : Reading → Sums → (noted : OpId → ℕ → Type 0) → Solution → ℕ → Type 0
StandsIn r e noted v i = (0 < slice_index v.parts i) × CanBeConstant r e (slice_index e.columns i) × (noted e.operator (slice_index e.columns i) → ⊥)

-- another operator than f of the list uses class k, and is noted of it as a sum
pub record HasNotedUser (sums : List Sums) (f : OpId) (noted : OpId → ℕ → Type 0) (k : ℕ) : Type 0 where
  pub entry : Sums
  pub listed : Contains sums entry
  pub other : entry.operator ≢ f
  pub uses : IsMarked entry k
  pub sum : noted entry.operator k

-- class k has another head, or is shared, and another operator that uses it is noted of it as a sum
abbrev pub IsOneSummandIn : Reading → Sums → (noted : OpId → ℕ → Type 0) → ℕ → Type 0
IsOneSummandIn r e noted k = HasOtherHead r e k ⊎ (IsSharedIn r k × HasNotedUser r.sums e.operator noted k)

-- the solution has column i, whose class is used and is one summand
pub record IsSingleIn (r : Reading) (e : Sums) (noted : OpId → ℕ → Type 0) (v : Solution) (i : ℕ) : Type 0 where
  pub some : 0 < slice_index v.parts i
  pub used : IsMarked e (slice_index e.columns i)
  pub one : IsOneSummandIn r e noted (slice_index e.columns i)

module _ (r : Reading) (e : Sums) (s : State) where
  -- heads tell the classes of the columns apart, or whether they are one is not open
  abbrev pub AreToldIn : ℕ → ℕ → Type 0
  AreToldIn i j = HaveHeads r (slice_index e.columns i) (slice_index e.columns j) ⊎ (IsOpen s (slice_index e.columns i) (slice_index e.columns j) → ⊥)

  module _ (noted : OpId → ℕ → Type 0) where
    -- the solution has column i, whose class is a single summand, more than once
    pub record IsRepeatedAt (v : Solution) (i : ℕ) : Type 0 where
      pub several : 1 < slice_index v.parts i
      pub single : IsSingleIn r e noted v i

    -- the solution has column i and one before it, whose classes are single summands and told apart
    pub record IsTornAt (v : Solution) (i : ℕ) : Type 0 where
      pub other : ℕ
      pub before : other < i
      pub left : IsSingleIn r e noted v i
      pub right : IsSingleIn r e noted v other
      pub told : AreToldIn i other

    -- so it stands for no summand, which is one term
    abbrev pub IsDeadAt : Solution → ℕ → Type 0
    IsDeadAt v i = IsRepeatedAt v i ⊎ IsTornAt v i

    -- so it is at some column
    pub record IsDead (v : Solution) : Type 0 where
      pub column : ℕ
      pub within : column < length e.columns
      pub dead : IsDeadAt v column

    -- it is not open whether the class of column i is that of another column which the solution has and whose class may be a constant, where no heads tell them apart
    abbrev pub ArePastColumns : Solution → ℕ → Type 0
    ArePastColumns v i = (j : ℕ) → j < length e.columns → StandsIn r e noted v j → AreToldIn i j

    -- so it is with all columns which the solution has, or it stands for no summand
    abbrev pub IsPastSolution : Solution → Type 0
    IsPastSolution v = IsDead v ⊎ ((i : ℕ) → i < length e.columns → StandsIn r e noted v i → ArePastColumns v i)

    -- and with all solutions
    abbrev pub ArePastTouched : List Solution → Type 0
    ArePastTouched basis = All IsPastSolution basis

-- of each operator
abbrev pub AreAllPast : Reading → State → (noted : OpId → ℕ → Type 0) → List (List Solution) → Type 0
AreAllPast r s noted bases = (i : ℕ) (e : Sums) → slice_get r.sums i ≡ Some e → ArePastTouched r e s noted (slice_index_or bases i [])
