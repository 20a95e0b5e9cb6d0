-- What all values that go with a state have in common. A unifier whose partition the state admits gives such values; where
-- sorts are heeded, one that gives the problem's variables terms of their sorts.
use Rattle.std.specs.Prelude.{◌≡◌, ◌≢◌, ℕ, ◌<◌, Bool, List, length, slice_index_or, Option, Some, None, All}
use Rattle.fvn_terms.specs.declared.plain.OpId.{OpId}
use Rattle.fvn_terms.specs.declared.declarations.Declarations.{Declarations}
use Rattle.fvn_terms.specs.Signature.{axioms}
use Rattle.fvn_forms.specs.Flat.{FlatTerm}
use Rattle.fvn_flat.specs.Forms.{head_of}
use Rattle.fvn_flat.specs.Partitions.{HasNoIdentity}
use Rattle.fvn_combine_nodes.specs.Table.{NodeTable}
use Rattle.fvn_combine_nodes.specs.States.{IsOpen, class_of}
use Rattle.fvn_combine_nodes.specs.declared.state.State.{State}
use Rattle.fvn_combine_bounds.specs.CombineCompleteObeying.{IsSumOf, IsOfNoOther, ObeyHeads}
use Rattle.fvn_combine_inferring.specs.Sorted.{GoWithSorts}
use Rattle.fvn_combine_inferring.specs.declared.inferring.Inferred.{Inferred}
use Rattle.fvn_combine_inferring.specs.declared.inferring.Inferred.TheVariants.{Nothing, Impossible, Together, Question}

module _ (d : Declarations) (t : NodeTable) (s : State) where
  -- i and j are nodes, and it is open whether they are in one class
  pub record AreOpen (i j : ℕ) : Type 0 where
    pub left : i < length t.nodes
    pub right : j < length t.nodes
    pub undecided : IsOpen s i j

  module _ (sorted : Bool) where
    -- the operator that is noted of a class heads its value, whatever values go with the state; one with an identity makes it a sum
    pub record TellHeads (heads : List (Option OpId)) : Type 0 where
      pub as_many : length heads ≡ length t.nodes
      pub joined : (k : ℕ) (f : OpId) → k < length t.nodes → slice_index_or heads k None ≡ Some f → (HasNoIdentity (axioms d f) → ⊥) → (values : ℕ → FlatTerm) → GoWithSorts d t s sorted values → IsSumOf f (values k)
      pub headed : (k : ℕ) (f : OpId) → k < length t.nodes → slice_index_or heads k None ≡ Some f → (values : ℕ → FlatTerm) → GoWithSorts d t s sorted values → head_of (values k) ≡ Some f

    -- no values go with the state
    abbrev pub HasNoValues : Type 0
    HasNoValues = (values : ℕ → FlatTerm) → GoWithSorts d t s sorted values → ⊥

    -- all values that go with the state give the classes of nodes i and j one value
    abbrev pub HaveOneValue : ℕ → ℕ → Type 0
    HaveOneValue i j = (values : ℕ → FlatTerm) → GoWithSorts d t s sorted values → values (class_of s i) ≡ values (class_of s j)

    -- both are nodes, and have one value
    abbrev pub IsEqualPair : ℕ × ℕ → Type 0
    IsEqualPair p = (p.0 < length t.nodes) × (p.1 < length t.nodes) × HaveOneValue p.0 p.1

    -- so are the nodes of each pair
    abbrev pub AreEqualPairs : List (ℕ × ℕ) → Type 0
    AreEqualPairs = All IsEqualPair

    -- all such values give them different ones
    abbrev pub HaveTwoValues : ℕ → ℕ → Type 0
    HaveTwoValues i j = (values : ℕ → FlatTerm) → GoWithSorts d t s sorted values → values (class_of s i) ≢ values (class_of s j)

    -- they have one value, and it is open whether they are in one class
    pub record MustMeet (i j : ℕ) : Type 0 where
      pub open_pair : AreOpen i j
      pub equal : HaveOneValue i j

    -- what is said so holds of all values that go with the state; nothing may always be said
    abbrev pub IsInferred : Inferred → Type 0
    IsInferred Nothing = Unit {0}
    IsInferred Impossible = HasNoValues
    IsInferred (Together i j) = MustMeet i j
    IsInferred (Question i j) = AreOpen i j

    -- whatever values go with the state, no operator but f that uses the class of node k makes its value a sum, or has it as its identity
    abbrev pub IsSumOfNoOther : OpId → ℕ → Type 0
    IsSumOfNoOther f k = (values : ℕ → FlatTerm) → GoWithSorts d t s sorted values → IsOfNoOther d t (class_of s) f (class_of s k) (values (class_of s k))

    -- whatever values go with the state obey these operators
    abbrev pub TellLabels : List (Option OpId) → Type 0
    TellLabels labels = (values : ℕ → FlatTerm) → GoWithSorts d t s sorted values → ObeyHeads d t s labels values
