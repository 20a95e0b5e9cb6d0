-- What is read of a state: its sum operators with their systems, and what heads its classes.
use Rattle.std.specs.Prelude.{◌≡◌, ◌≢◌, ◌↔◌, ℕ, ◌<◌, true, false, List, length, map, slice_index, slice_index_or, Option, Some, None, All, AllPairs, Contains}
use Rattle.fvn_terms.specs.declared.plain.OpId.{OpId}
use Rattle.fvn_terms.specs.declared.declarations.Declarations.{Declarations}
use Rattle.fvn_lindio.specs.Systems.{IsSystem}
use Rattle.fvn_combine_systems.specs.CombineNodesTable.{NodeTable}
use Rattle.fvn_combine_systems.specs.NodeSystems.{IsNodeSystem}
use Rattle.fvn_combine_leaves.specs.Leaves.{IsSumOperator, IsSolid, Uses}
use Rattle.fvn_combine_leaves.specs.declared.reading.Sums.{Sums}
use Rattle.fvn_combine_leaves.specs.declared.reading.Reading.{Reading}

module _ (d : Declarations) (t : NodeTable) where
  -- the sum operators, each once
  pub record AreSumOperators (list : List OpId) : Type 0 where
    pub distinct : AllPairs ◌≢◌ list
    pub exact : (f : OpId) → Contains list f ↔ IsSumOperator d t f

  module _ (class : ℕ → ℕ) where
    -- a sum operator with its system, and for each column whether a row uses it
    pub record AreSums (s : Sums) : Type 0 where
      pub is_system : IsNodeSystem t class s.operator s.columns s.system
      pub fits : IsSystem s.system
      pub marked : length s.used ≡ length s.columns
      pub exact : (j : ℕ) → j < length s.columns → (slice_index_or s.used j false ≡ true) ↔ Uses d t class s.operator (slice_index s.columns j)

    -- for each node the operator without an identity that heads a member of the class that it names, if there is one
    pub record AreHeads (heads : List (Option OpId)) : Type 0 where
      pub as_many : length heads ≡ length t.nodes
      pub exact : (k : ℕ) (f : OpId) → k < length t.nodes → (slice_index_or heads k None ≡ Some f) ↔ IsSolid d t class f k

    -- both for all sum operators and all nodes
    pub record IsReading (r : Reading) : Type 0 where
      pub operators : AreSumOperators (map (λ s. s.operator) r.sums)
      pub sums : All AreSums r.sums
      pub heads : AreHeads r.heads
