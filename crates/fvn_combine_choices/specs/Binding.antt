-- What a class is bound to at a leaf, and what that asks of the choice of minimal solutions.
use Rattle.std.specs.Prelude.{◌≡◌, ◌≢◌, ◌⊎◌, ◌↔◌, ℕ, ◌<◌, Bool, true, false, List, length, slice_index, slice_index_or, Option, Some, AllPairs, Contains}
use Rattle.fvn_terms.specs.declared.plain.OpId.{OpId}
use Rattle.fvn_terms.specs.declared.declarations.Declarations.{Declarations}
use Rattle.fvn_terms.specs.Signature.{axioms}
use Rattle.fvn_terms.specs.Equality.{IsAssociative}
use Rattle.fvn_flat.specs.Partitions.{HasNoIdentity}
use Rattle.fvn_combine_nodes.specs.Table.{NodeTable}
use Rattle.fvn_combine_leaves.specs.Leaves.{IsSolid, Uses, IsShared, HasTwin}

-- Each shared class may have an operator as its tag, of which it is a sum.
module _ (d : Declarations) (t : NodeTable) (class : ℕ → ℕ) (tag : ℕ → Option OpId) where
  -- why class k is bound to a sum of f
  pub data IsBound (f : OpId) (k : ℕ) : Type 0 where
    -- f heads a member, and has no identity
    solid : IsAssociative (axioms d f) → IsSolid d t class f k → IsBound f k
    -- f alone uses it, and no operator without an identity heads a member
    alone : Uses d t class f k → ((g : OpId) → IsSolid d t class g k → ⊥) → ((g : OpId) → Uses d t class g k → g ≡ f) → IsBound f k
    -- several operators use it, and f is its tag
    tagged : Uses d t class f k → IsShared d t class k → tag k ≡ Some f → IsBound f k

  -- f uses class k, which is a single summand in the sums of f
  pub record IsConstant (f : OpId) (k : ℕ) : Type 0 where
    pub used : Uses d t class f k
    pub not_bound : IsBound f k → ⊥

  -- the sum of f to which class k is bound has a member: f has no identity, or another operator that uses the class has the same one
  pub record IsRequired (f : OpId) (k : ℕ) : Type 0 where
    pub bound : IsBound f k
    pub why : HasNoIdentity (axioms d f) ⊎ HasTwin d t class f k

  -- the constant columns for f, and for each column whether it may be zero
  pub record AreAsked (f : OpId) (columns constants : List ℕ) (may_be_zero : List Bool) : Type 0 where
    pub distinct : AllPairs ◌≢◌ constants
    pub are_constant : (j : ℕ) → Contains constants j ↔ ((j < length columns) × IsConstant f (slice_index columns j))
    pub required : (j : ℕ) → (slice_index_or may_be_zero j true ≡ false) ↔ ((j < length columns) × IsRequired f (slice_index columns j))
