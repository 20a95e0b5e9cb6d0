-- The shared classes of a state.
use Rattle.std.specs.Prelude.{◌≡◌, ◌≢◌, ◌↔◌, ℕ, ◌<◌, Bool, true, List, length, map, All, AllPairs, Contains}
use Rattle.fvn_terms.specs.declared.plain.OpId.{OpId}
use Rattle.fvn_terms.specs.declared.declarations.Declarations.{Declarations}
use Rattle.fvn_combine_nodes.specs.Table.{NodeTable}
use Rattle.fvn_combine_leaves.specs.Leaves.{Uses, IsShared}
use Rattle.fvn_combine_bounds.specs.Narrow.{IsNarrow, IsNeverIdentity}
use Rattle.fvn_combine_candidates.specs.declared.sharing.SharedClass.{SharedClass}

-- the classes of the list
abbrev pub classes_of : List SharedClass → List ℕ
classes_of shared = map (λ c. c.class) shared

module _ (d : Declarations) (t : NodeTable) (class : ℕ → ℕ) (sorted : Bool) where
  -- f uses class k, whose value, where sorts are heeded, may be a sum by f, or f's identity: the class is not narrow under f, or may be that
  abbrev pub MayBeSum : OpId → ℕ → Type 0
  MayBeSum f k = Uses d t class f k × (sorted ≡ true → IsNarrow d t class f k → IsNeverIdentity d t class f k → ⊥)

  -- a shared class, with exactly the operators that use it and of which its value may be a sum or the identity, each once
  pub record IsSharedClass (c : SharedClass) : Type 0 where
    pub within : c.class < length t.nodes
    pub shared : IsShared d t class c.class
    pub distinct : AllPairs ◌≢◌ c.users
    pub exact : (f : OpId) → Contains c.users f ↔ MayBeSum f c.class

  -- exactly the shared classes, each once
  pub record AreSharedClasses (list : List SharedClass) : Type 0 where
    pub each : All IsSharedClass list
    pub distinct : AllPairs ◌≢◌ (classes_of list)
    pub every : (k : ℕ) → IsShared d t class k → Contains (classes_of list) k
