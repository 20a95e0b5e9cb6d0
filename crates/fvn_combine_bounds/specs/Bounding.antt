-- The bounds that sorts put on the columns of a sum operator.
use Rattle.std.specs.Prelude.{◌↔◌, ℕ, ◌<◌, List, length, slice_index, Contains}
use Rattle.fvn_terms.specs.declared.declarations.Declarations.{Declarations}
use Rattle.fvn_acunify.specs.declared.theory.ColumnBounds.{ColumnBounds}
use Rattle.fvn_combine_nodes.specs.Table.{NodeTable}
use Rattle.fvn_combine_leaves.specs.Leaves.{Uses}
use Rattle.fvn_combine_leaves.specs.declared.reading.Sums.{Sums}
use Rattle.fvn_combine_complete.specs.Neutral.{IsNeutral}
use Rattle.fvn_combine_bounds.specs.Narrow.{IsNarrow, IsNeverIdentity}

-- the numbers below i of which P holds
abbrev pub AreColumnsBelow : (ℕ → Type 0) → ℕ → List ℕ → Type 0
AreColumnsBelow P i list = (j : ℕ) → Contains list j ↔ ((j < i) × P j)

module _ (d : Declarations) (t : NodeTable) (class : ℕ → ℕ) (s : Sums) where
  -- column j is used, its class is narrow under the operator, and the operator is not neutral
  abbrev pub IsNarrowAt : ℕ → Type 0
  IsNarrowAt j =
      Uses d t class s.operator (slice_index s.columns j)
      × IsNarrow d t class s.operator (slice_index s.columns j)
      × (IsNeutral d s.operator → ⊥)

  -- column j is used, and its class is never the operator's identity
  abbrev pub IsOtherAt : ℕ → Type 0
  IsOtherAt j =
      Uses d t class s.operator (slice_index s.columns j)
      × IsNeverIdentity d t class s.operator (slice_index s.columns j)

  -- at most one in the narrow columns, and at least one in those that are never the identity
  pub record AreBounds (b : ColumnBounds) : Type 0 where
    pub most : AreColumnsBelow IsNarrowAt (length s.columns) b.at_most_one
    pub least : AreColumnsBelow IsOtherAt (length s.columns) b.at_least_one
