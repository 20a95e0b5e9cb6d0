-- Classes that have room for an operator: what stands apart, which solutions are free of constants, and what members add; and what is taken out of labels.
use Rattle.std.specs.Prelude.{◌≡◌, ◌≢◌, ◌⊎◌, ℕ, ◌+◌, ◌<◌, List, [], ◌∷◌, length, slice_get, slice_index, slice_index_or, Option, Some, None, All, Contains}
use Rattle.fvn_terms.specs.declared.plain.OpId.{OpId}
use Rattle.fvn_terms.specs.declared.declarations.Declarations.{Declarations}
use Rattle.fvn_terms.specs.Signature.{axioms}
use Rattle.fvn_flat.specs.Partitions.{HasNoIdentity}
use Rattle.fvn_lindio.specs.declared.system.Solution.{Solution}
use Rattle.fvn_combine_nodes.specs.Table.{NodeTable, IsOver}
use Rattle.fvn_combine_nodes.specs.States.{class_of}
use Rattle.fvn_combine_nodes.specs.declared.state.State.{State}
use Rattle.fvn_combine_leaves.specs.declared.reading.Sums.{Sums}
use Rattle.fvn_combine_leaves.specs.declared.reading.Reading.{Reading}
use Rattle.fvn_combine_leaves.specs.Users.{IsMarked, IsSharedIn, CanBeConstant}
use Rattle.fvn_combine_questions.specs.inner.Touched.{HasOtherHead, AreToldIn}

-- another operator than f is noted of class k
abbrev pub IsOtherLabel : (labels : List (Option OpId)) → OpId → ℕ → Type 0
IsOtherLabel labels f k = (g : OpId) × (slice_index_or labels k None ≡ Some g) × (g ≢ f)

-- the operator uses class z, and another one heads it
abbrev pub IsSingleClass : Reading → Sums → ℕ → Type 0
IsSingleClass r e z = IsMarked e z × HasOtherHead r e z

module _ (r : Reading) (e : Sums) (labels : List (Option OpId)) where
  -- where the solution has column i, and its class may be a constant, this is shared and noted as a sum by the operator
  abbrev pub IsFreeAt : Solution → ℕ → Type 0
  IsFreeAt v i = 0 < slice_index v.parts i → CanBeConstant r e (slice_index e.columns i)
      → IsSharedIn r (slice_index e.columns i) × (slice_index_or labels (slice_index e.columns i) None ≡ Some e.operator)

  -- so it is in each column other than i
  abbrev pub IsFreeBut : Solution → ℕ → Type 0
  IsFreeBut v i = (j : ℕ) → j < length e.columns → j ≢ i → IsFreeAt v j

  -- a solution that has column i is so
  pub record HasFreeAt (basis : List Solution) (i : ℕ) : Type 0 where
    pub solution : Solution
    pub listed : Contains basis solution
    pub has : 0 < slice_index solution.parts i
    pub free : IsFreeBut solution i

  -- a column of class z is so
  pub record HasFree (basis : List Solution) (z : ℕ) : Type 0 where
    pub column : ℕ
    pub within : column < length e.columns
    pub is : slice_index e.columns column ≡ z
    pub free : HasFreeAt basis column

  -- class z is a single summand, or there is such a solution
  abbrev pub HasSpaceIn : List Solution → ℕ → Type 0
  HasSpaceIn basis z = IsSingleClass r e z ⊎ HasFree basis z

  -- the solution has column i, whose class is shared, and of which another operator is noted
  abbrev pub CompetesIn : Solution → ℕ → Type 0
  CompetesIn v i = (0 < slice_index v.parts i) × IsSharedIn r (slice_index e.columns i) × IsOtherLabel labels e.operator (slice_index e.columns i)

  module _ (s : State) where
    -- the class of column i is told apart from each shared class that the solution has, and of which another operator is noted
    abbrev pub IsToldFrom : Solution → ℕ → Type 0
    IsToldFrom v i = (j : ℕ) → j < length e.columns → CompetesIn v j → AreToldIn r e s i j

    -- so it is with all solutions that have column i
    abbrev pub AreToldFrom : ℕ → List Solution → Type 0
    AreToldFrom i basis = All (λ v. 0 < slice_index v.parts i → IsToldFrom v i) basis

    -- the class of column i is shared and told apart from these
    pub record StandsApartAt (basis : List Solution) (i : ℕ) : Type 0 where
      pub shared : IsSharedIn r (slice_index e.columns i)
      pub told : AreToldFrom i basis

    -- a column of class k is so
    pub record StandsApart (basis : List Solution) (k : ℕ) : Type 0 where
      pub column : ℕ
      pub within : column < length e.columns
      pub is : slice_index e.columns column ≡ k
      pub apart : StandsApartAt basis column

-- the classes of two nodes
pub record AreClassesOf (s : State) (ks : List ℕ) (p : ℕ × ℕ) : Type 0 where
  pub left : ℕ
  pub right : ℕ
  pub nodes : ks ≡ left ∷ right ∷ []
  pub left_is : class_of s left ≡ p.0
  pub right_is : class_of s right ≡ p.1

module _ (t : NodeTable) (s : State) (f : OpId) (k : ℕ) where
  -- node i is in class k, and f over nodes of these classes
  pub record IsMember (i : ℕ) (p : ℕ × ℕ) : Type 0 where
    pub left : ℕ
    pub right : ℕ
    pub over : IsOver t.nodes i f (left ∷ right ∷ [])
    pub of : class_of s i ≡ k
    pub left_is : class_of s left ≡ p.0
    pub right_is : class_of s right ≡ p.1

  -- a member adds classes that have space
  pub record HasMember (space : ℕ → Type 0) : Type 0 where
    pub node : ℕ
    pub added : ℕ × ℕ
    pub member : IsMember node added
    pub left_space : space added.0
    pub right_space : space added.1

-- class k stands apart, and a member adds classes that have space
abbrev pub IsRoom : NodeTable → State → Reading → (labels : List (Option OpId)) → Sums → List Solution → ℕ → Type 0
IsRoom t s r labels e basis k = StandsApart r e labels s basis k × HasMember t s e.operator k (HasSpaceIn r e labels basis)

-- class k has room for f, by the columns and the solutions of this
pub record HasRoomIn (r : Reading) (bases : List (List Solution)) (is_room : Sums → List Solution → ℕ → Type 0) (f : OpId) (k : ℕ) : Type 0 where
  pub place : ℕ
  pub entry : Sums
  pub at : slice_get r.sums place ≡ Some entry
  pub operator : entry.operator ≡ f
  pub room : is_room entry (slice_index_or bases place []) k

-- f has an identity, and class k has room for it
abbrev pub IsRoomFor : Declarations → (room : OpId → ℕ → Type 0) → OpId → ℕ → Type 0
IsRoomFor d room f k = (HasNoIdentity (axioms d f) → ⊥) × room f k

-- an operator is noted of class k
pub record IsSomeAt (labels : List (Option OpId)) (k : ℕ) : Type 0 where
  pub within : k < length labels
  pub operator : OpId
  pub noted : slice_index_or labels k None ≡ Some operator

-- an operator that labels note of class k is noted by heads, or there is room for it
abbrev pub IsKept : (room : OpId → ℕ → Type 0) → (heads labels : List (Option OpId)) → ℕ → Type 0
IsKept room heads labels k = (f : OpId) → slice_index_or labels k None ≡ Some f → (slice_index_or heads k None ≡ Some f) ⊎ room f k

-- so it is with all classes
abbrev pub AreKept : (room : OpId → ℕ → Type 0) → (heads labels : List (Option OpId)) → Type 0
AreKept room heads labels = (k : ℕ) → IsKept room heads labels k

-- what is noted is noted by others
abbrev pub IsWithin : (labels others : List (Option OpId)) → Type 0
IsWithin labels others = (k : ℕ) (f : OpId) → slice_index_or labels k None ≡ Some f → slice_index_or others k None ≡ Some f

-- how many classes have an operator
abbrev pub some_of : List (Option OpId) → ℕ
some_of [] = 0
some_of (None ∷ labels) = some_of labels
some_of (Some f ∷ labels) = some_of labels + 1
