-- Readings in the making.
use Rattle.std.specs.Prelude.{◌≡◌, ◌≢◌, ◌⊎◌, ◌↔◌, ℕ, ◌<◌, pos, Bool, true, false, List, [], ◌∷◌, ◌++◌, length, slice_set, slice_index_or, Option, Some, None, AllPairs, Any, Contains}
use Rattle.fvn_terms.specs.declared.plain.OpId.{OpId}
use Rattle.fvn_terms.specs.declared.declarations.Declarations.{Declarations}
use Rattle.fvn_terms.specs.Signature.{axioms}
use Rattle.fvn_terms.specs.Equality.{IsAssociative}
use Rattle.fvn_combine_nodes.specs.Table.{NodeTable, IsOver}
use Rattle.fvn_combine_leaves.specs.Leaves.{IsSolid}
use Rattle.fvn_lindio.specs.declared.system.System.{System}
use Rattle.fvn_lindio.specs.Systems.{rows_of}

-- the list has what is found at its end, where that is new
abbrev pub IsAdded : List OpId → List OpId → Option OpId → Type 0
IsAdded before now None = now ≡ before
IsAdded before now (Some f) = (Contains before f × (now ≡ before)) ⊎ ((Contains before f → ⊥) × (now ≡ before ++ f ∷ []))

-- the heads with that of class k, where there is one
abbrev pub noted : List (Option OpId) → ℕ → Option OpId → List (Option OpId)
noted heads k None = heads
noted heads k (Some f) = slice_set heads k (Some f)

-- for each column whether a row has a coefficient other than zero there
pub record AreUsed (s : System) (used : List Bool) : Type 0 where
  pub marked : length used ≡ s.columns
  pub exact : (j : ℕ) → j < s.columns → (slice_index_or used j false ≡ true) ↔ Any (λ row. slice_index_or row j (pos 0) ≢ pos 0) (rows_of s)

-- the associative operators of these nodes, each once
pub record AreOperatorsAmong (d : Declarations) (t : NodeTable) (front : List ℕ) (list : List OpId) : Type 0 where
  pub distinct : AllPairs ◌≢◌ list
  pub from : (f : OpId) → Contains list f → IsAssociative (axioms d f) × (i : ℕ) × Contains front i × (ks : List ℕ) × IsOver t.nodes i f ks
  pub all : (f : OpId) (i : ℕ) (ks : List ℕ) → Contains front i → IsOver t.nodes i f ks → IsAssociative (axioms d f) → Contains list f

-- the heads of classes with a member below node i
pub record AreHeadsBelow (d : Declarations) (t : NodeTable) (class : ℕ → ℕ) (i : ℕ) (heads : List (Option OpId)) : Type 0 where
  pub as_many : length heads ≡ length t.nodes
  pub exact : (k : ℕ) (f : OpId) → k < length t.nodes → (slice_index_or heads k None ≡ Some f) ↔ ((m : IsSolid d t class f k) × (m.member < i))
