-- The columns of a sum system in the making.
use Rattle.std.specs.Prelude.{◌≢◌, ℕ, List, [], ◌∷◌, Option, Some, None, slice_get, AllPairs, Contains}
use Rattle.std.specs.List.{flat_map}
use Rattle.fvn_terms.specs.declared.plain.OpId.{OpId}
use Rattle.fvn_combine_nodes.specs.Table.{NodeTable}
use Rattle.fvn_combine_systems.specs.NodeSystems.{addends}

module _ (class : ℕ → ℕ) where
  -- the classes of a sum and of its arguments
  abbrev pub classes_with : ℕ → Option (ℕ × ℕ) → List ℕ
  classes_with i None = []
  classes_with i (Some p) = class i ∷ class p.0 ∷ class p.1 ∷ []

  -- those of node i, where f heads it
  abbrev pub classes_at : NodeTable → OpId → ℕ → List ℕ
  classes_at t f i = classes_with i (addends f (slice_get t.nodes i))

  -- those of each of the nodes
  abbrev pub classes_among : NodeTable → OpId → List ℕ → List ℕ
  classes_among t f list = flat_map (classes_at t f) list

-- each number of the list once, but for those that are left out
pub record AreOnce (Left : ℕ → Type 0) (list once : List ℕ) : Type 0 where
  pub distinct : AllPairs ◌≢◌ once
  pub listed : (k : ℕ) → Contains once k → Contains list k × (Left k → ⊥)
  pub all : (k : ℕ) → Contains list k → (Left k → ⊥) → Contains once k
