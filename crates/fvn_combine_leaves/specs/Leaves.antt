-- Leaves: states in which nothing is open that decides what classes are bound to.
use Rattle.std.specs.Prelude.{◌≡◌, ◌≢◌, ◌⊎◌, ℕ, ◌<◌, ◌≤◌, pos, List, [], ◌∷◌, length, slice_get, slice_index_or, Option, Some, None, Contains}
use Rattle.fvn_terms.specs.declared.plain.OpId.{OpId}
use Rattle.fvn_terms.specs.declared.declarations.Declarations.{Declarations}
use Rattle.fvn_terms.specs.Signature.{axioms}
use Rattle.fvn_terms.specs.Equality.{IsAssociative, identity}
use Rattle.fvn_lindio.specs.declared.system.System.{System}
use Rattle.fvn_lindio.specs.Systems.{IsMinimal, rows_of}
use Rattle.fvn_combine_systems.specs.FlatPartitions.{HasNoIdentity}
use Rattle.fvn_combine_systems.specs.FlatSolvedLists.{component}
use Rattle.fvn_combine_systems.specs.CombineNodesTable.{NodeTable, IsOver}
use Rattle.fvn_combine_systems.specs.CombineNodesClasses.{IsNodePartition}
use Rattle.fvn_combine_systems.specs.CombineNodesStates.{IsClosed, IsOpen, class_of}
use Rattle.fvn_combine_systems.specs.CombineNodesDeclared.state.State.{State}
use Rattle.fvn_combine_systems.specs.NodeSystems.{addends, sums, coefficient, IsNodeColumn, IsNodeSystem}

module _ (d : Declarations) (t : NodeTable) where
  -- f is associative, and heads a subterm
  pub record IsSumOperator (f : OpId) : Type 0 where
    pub associative : IsAssociative (axioms d f)
    pub sum : ℕ
    pub listed : Contains (sums t f) sum

  module _ (class : ℕ → ℕ) where
    -- f has no identity, and heads a member of class k
    pub record IsSolid (f : OpId) (k : ℕ) : Type 0 where
      pub member : ℕ
      pub arguments : List ℕ
      pub over : IsOver t.nodes member f arguments
      pub of : class member ≡ k
      pub no_identity : HasNoIdentity (axioms d f)

    -- some row of f's sum system uses the column of class k
    pub record Uses (f : OpId) (k : ℕ) : Type 0 where
      pub associative : IsAssociative (axioms d f)
      pub column : IsNodeColumn t class f k
      pub row : ℕ
      pub listed : Contains (sums t f) row
      pub other : coefficient class row (addends f (slice_get t.nodes row)) k ≢ pos 0

    -- no operator without an identity heads a member of class k, and two operators use it
    pub record IsShared (k : ℕ) : Type 0 where
      pub soft : (f : OpId) → IsSolid f k → ⊥
      pub first : OpId
      pub second : OpId
      pub different : first ≢ second
      pub uses_first : Uses first k
      pub uses_second : Uses second k

    -- another operator with the same identity, or none, uses class k
    pub record HasTwin (f : OpId) (k : ℕ) : Type 0 where
      pub twin : OpId
      pub other : twin ≢ f
      pub same : identity (axioms d twin) ≡ identity (axioms d f)
      pub uses : Uses twin k

    -- class k may have to be a single summand in the sums of f
    pub record MayBeConstant (f : OpId) (k : ℕ) : Type 0 where
      pub used : Uses f k
      pub why : ((g : OpId) × (g ≢ f) × IsSolid g k) ⊎ IsShared k

    -- f uses class k, and another operator, without an identity, heads a member: its value is one summand in the sums of f
    pub record IsSingle (f : OpId) (k : ℕ) : Type 0 where
      pub used : Uses f k
      pub head : OpId
      pub other : head ≢ f
      pub solid : IsSolid head k

    -- different operators without identities head members of the classes
    pub record HaveTwoHeads (k l : ℕ) : Type 0 where
      pub first : OpId
      pub second : OpId
      pub different : first ≢ second
      pub heads_first : IsSolid first k
      pub heads_second : IsSolid second l

    -- a minimal solution of f's sum system has both classes
    pub record AreTouched (f : OpId) (k l : ℕ) : Type 0 where
      pub columns : List ℕ
      pub system : System
      pub is : IsNodeSystem t class f columns system
      pub solution : List ℕ
      pub minimal : IsMinimal system.columns (rows_of system) solution
      pub left : 0 < component columns solution k
      pub right : 0 < component columns solution l

  -- Commutative nodes meet, and it is known of an identity that two operators have which classes that both use have it.
  pub record IsNearLeaf (s : State) : Type 0 where
    pub closed : IsClosed d t s
    pub partition : IsNodePartition d t (class_of s)
    -- whether a shared class has the identity of an operator that uses it, where another one with the same identity uses it too
    pub identities : (f : OpId) (k : ℕ) → IsShared (class_of s) k → Uses (class_of s) f k → HasTwin (class_of s) f k → (p : OpId × ℕ) → Contains t.units p → p.0 ≡ f → IsOpen s k p.1 → ⊥

  -- the classes have two heads, or whether they are one is not open
  abbrev pub AreTold : State → ℕ → ℕ → Type 0
  AreTold s k l = HaveTwoHeads (class_of s) k l ⊎ (IsOpen s k l → ⊥)

  -- f, which has an identity, is noted of class k: the class is taken as a sum by it
  pub record IsNotedSum (heads : List (Option OpId)) (f : OpId) (k : ℕ) : Type 0 where
    pub noted : slice_index_or heads k None ≡ Some f
    pub some : HasNoIdentity (axioms d f) → ⊥

  -- another operator than f, which uses the shared class k too, is noted of it: its value is one summand in the sums of f
  pub record IsNotedOther (heads : List (Option OpId)) (class : ℕ → ℕ) (f : OpId) (k : ℕ) : Type 0 where
    pub shared : IsShared class k
    pub used : Uses class f k
    pub operator : OpId
    pub other : operator ≢ f
    pub uses : Uses class operator k
    pub noted : IsNotedSum heads operator k

  -- class k is a single summand in the sums of f, by a head without an identity, or by what is noted
  abbrev pub IsOneSummand : List (Option OpId) → (ℕ → ℕ) → OpId → ℕ → Type 0
  IsOneSummand heads class f k = IsSingle class f k ⊎ IsNotedOther heads class f k

  -- a solution for f, one part a column, may stand for a summand: it adds no class that is a single summand several times, and of no two such
  -- classes that it has is it told that they differ
  pub record IsLive (heads : List (Option OpId)) (s : State) (f : OpId) (columns solution : List ℕ) : Type 0 where
    pub once : (k : ℕ) → IsOneSummand heads (class_of s) f k → component columns solution k ≤ 1
    pub told : (k l : ℕ) → k ≢ l → IsOneSummand heads (class_of s) f k → IsOneSummand heads (class_of s) f l
        → 0 < component columns solution k → 0 < component columns solution l → AreTold s k l → ⊥

  -- f uses class k, which has a summand for sure, and no minimal solution of f's sum system that is live has it: no values that obey these heads go with the state
  pub record IsUnfilled (heads : List (Option OpId)) (s : State) (f : OpId) (k : ℕ) : Type 0 where
    pub operator : IsSumOperator f
    pub used : Uses (class_of s) f k
    pub summand : IsOneSummand heads (class_of s) f k ⊎ HasNoIdentity (axioms d f)
    pub columns : List ℕ
    pub system : System
    pub is : IsNodeSystem t (class_of s) f columns system
    pub none : (v : List ℕ) → IsMinimal system.columns (rows_of system) v → IsLive heads s f columns v → component columns v k ≡ 0

  -- of no two classes that are single summands by their heads alone, and that it has, is it told that they differ: so it may stand for a summand,
  -- whatever is noted
  abbrev pub IsAlive : State → OpId → (columns solution : List ℕ) → Type 0
  IsAlive s f columns solution = (k l : ℕ) → k ≢ l → IsSingle (class_of s) f k → IsSingle (class_of s) f l
      → 0 < component columns solution k → 0 < component columns solution l → AreTold s k l → ⊥

  -- Class z has space for f: a minimal solution of f's sum system has it, and no other class that may be a constant, but shared ones that
  -- are noted as sums of f. So z is a constant, or a choice may take a solution without a constant that has it.
  pub record HasSpace (heads : List (Option OpId)) (s : State) (f : OpId) (z : ℕ) : Type 0 where
    pub columns : List ℕ
    pub system : System
    pub is : IsNodeSystem t (class_of s) f columns system
    pub solution : List ℕ
    pub minimal : IsMinimal system.columns (rows_of system) solution
    pub has : 0 < component columns solution z
    pub free : (l : ℕ) → l ≢ z → 0 < component columns solution l → MayBeConstant (class_of s) f l → IsShared (class_of s) l × IsNotedSum heads f l

  -- The shared class k has room for f: f heads a member, and each of the two classes that it adds is a single summand for sure, or has space.
  -- So a choice may take two members for k, whatever it is a sum of.
  pub record HasRoom (heads : List (Option OpId)) (s : State) (f : OpId) (k : ℕ) : Type 0 where
    pub shared : IsShared (class_of s) k
    pub member : ℕ
    pub left : ℕ
    pub right : ℕ
    pub over : IsOver t.nodes member f (left ∷ right ∷ [])
    pub of : class_of s member ≡ k
    pub left_space : IsSingle (class_of s) f (class_of s left) ⊎ HasSpace heads s f (class_of s left)
    pub right_space : IsSingle (class_of s) f (class_of s right) ⊎ HasSpace heads s f (class_of s right)
    -- of each other shared class of which another operator is noted, and that is in a minimal solution with k that is alive, it is told that it differs
    pub told : (l : ℕ) (g : OpId) → l ≢ k → g ≢ f → IsShared (class_of s) l → IsNotedSum heads g l
        → (both : AreTouched (class_of s) f k l) → IsAlive s f both.columns both.solution → AreTold s k l

  -- an operator that labels note of a class is noted by heads, or is a candidate for which the class has room
  abbrev pub AreLabels : State → (heads candidates labels : List (Option OpId)) → Type 0
  AreLabels s heads candidates labels = (k : ℕ) (f : OpId) → slice_index_or labels k None ≡ Some f
      → (slice_index_or heads k None ≡ Some f) ⊎ ((slice_index_or candidates k None ≡ Some f) × HasRoom labels s f k)

  -- Nothing is open that decides what a class is bound to, where these operators are noted of classes.
  pub record IsLeaf (heads : List (Option OpId)) (s : State) : Type 0 where
    pub closed : IsClosed d t s
    pub partition : IsNodePartition d t (class_of s)
    -- whether a shared class has the identity of an operator that uses it, where another one with the same identity uses it too
    pub identities : (f : OpId) (k : ℕ) → IsShared (class_of s) k → Uses (class_of s) f k → HasTwin (class_of s) f k → (p : OpId × ℕ) → Contains t.units p → p.0 ≡ f → IsOpen s k p.1 → ⊥
    -- whether two classes are one, where both may be constants of an operator, neither is noted as a sum by it, and a minimal solution
    -- that may stand for a summand has both
    pub constants : (f : OpId) (k l : ℕ) → MayBeConstant (class_of s) f k → MayBeConstant (class_of s) f l
        → (IsNotedSum heads f k → ⊥) → (IsNotedSum heads f l → ⊥)
        → (both : AreTouched (class_of s) f k l) → IsLive heads s f both.columns both.solution → AreTold s k l

  -- The same, whatever heads are known and the minimal solutions are.
  pub record IsFullLeaf (s : State) : Type 0 where
    pub near : IsNearLeaf s
    pub constants : (f : OpId) (k l : ℕ) → MayBeConstant (class_of s) f k → MayBeConstant (class_of s) f l → AreTold s k l

  -- the question on two nodes is open; where there is none, the state is nearly a leaf
  abbrev pub IsFirstQuestion : State → Option (ℕ × ℕ) → Type 0
  IsFirstQuestion s None = IsNearLeaf s
  IsFirstQuestion s (Some p) = (p.0 < length t.nodes) × (p.1 < length t.nodes) × IsOpen s p.0 p.1

  -- so it is; where there is none, the state is a leaf
  abbrev pub IsQuestion : List (Option OpId) → State → Option (ℕ × ℕ) → Type 0
  IsQuestion heads s None = IsLeaf heads s
  IsQuestion heads s (Some p) = (p.0 < length t.nodes) × (p.1 < length t.nodes) × IsOpen s p.0 p.1

  -- the same; where there is none, it is one whatever the minimal solutions are
  abbrev pub IsFullQuestion : State → Option (ℕ × ℕ) → Type 0
  IsFullQuestion s None = IsFullLeaf s
  IsFullQuestion s (Some p) = (p.0 < length t.nodes) × (p.1 < length t.nodes) × IsOpen s p.0 p.1
