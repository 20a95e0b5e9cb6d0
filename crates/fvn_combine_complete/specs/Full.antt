-- Choices that take every solution without a constant that may stand for the identity.
use Rattle.std.specs.Prelude.{◌≡◌, ℕ, ◌/◌, ◌%◌, ◌^◌, ◌<◌, List, [], length, slice_index_or}
use Rattle.fvn_terms.specs.declared.plain.OpId.{OpId}
use Rattle.fvn_terms.specs.declared.declarations.Declarations.{Declarations}
use Rattle.fvn_flat.specs.SolvedLists.{component}
use Rattle.fvn_combine_nodes.specs.Table.{NodeTable}
use Rattle.fvn_combine_leaves.specs.Leaves.{IsSumOperator}
use Rattle.fvn_combine_choices.specs.Binding.{IsConstant}
use Rattle.fvn_combine_choices.specs.Choosing.{Systems, Choice}
use Rattle.fvn_combine_complete.specs.Vanishing.{MayVanish}

module _ (d : Declarations) (t : NodeTable) (class : ℕ → ℕ) (y : Systems) (c : Choice) where
  -- the solution has no constant of f
  abbrev pub HasNoConstant : OpId → List ℕ → Type 0
  HasNoConstant f v = (k : ℕ) → IsConstant d t class c.tag f k → component (y.columns f) v k ≡ 0

  -- for each operator every solution without a constant is taken that may stand for the identity, so that a choice without it is an instance of
  -- the one with it
  abbrev pub IsFull : Type 0
  IsFull = (f : OpId) → IsSumOperator d t f → (i : ℕ) → i < length (y.basis f) → HasNoConstant f (slice_index_or (y.basis f) i [])
      → MayVanish d t class f (y.columns f) (slice_index_or (y.basis f) i []) → c.number f / 2 ^ i % 2 ≡ 1
