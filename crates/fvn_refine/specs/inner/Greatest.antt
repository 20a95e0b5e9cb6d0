-- The greatest row with a property, and the rank above all others that give a sort or one below it.
use Rattle.std.specs.Prelude.{◌≡◌, ◌≤◌, ◌<◌, ℕ, List, Some, slice_get}
use Rattle.fvn_terms.specs.declared.plain.Var.{Var}
use Rattle.fvn_terms.specs.declared.plain.SortId.{SortId}
use Rattle.fvn_terms.specs.declared.declarations.Rank.{Rank}
use Rattle.fvn_terms.specs.declared.declarations.Declarations.{Declarations}
use Rattle.fvn_terms.specs.Signature.{AtOrBelow}
use Rattle.fvn_refine.specs.inner.Rows.{Row, IsRow, IsRowBelow}

module _ (d : Declarations) where
  -- the row has the property, and each row at or below the way that has it is at or below this one
  pub record IsGreatest (xs : List Var) (way : Row) (P : Row → Type 0) (row : Row) : Type 0 where
    pub is_row : IsRow d xs row
    pub below : IsRowBelow d row way
    pub has : P row
    pub over : (m : Row) → IsRow d xs m → IsRowBelow d m way → P m → IsRowBelow d m row

  module _ (s : SortId) (ranks : List Rank) where
    -- none of these ranks, from this place on, gives the sort or one below it
    abbrev pub NoneLow : ℕ → Type 0
    NoneLow from = (j : ℕ) (r : Rank) → from ≤ j → slice_get ranks j ≡ Some r → AtOrBelow d r.result s → ⊥

    -- the first of them, from one place on, that gives the sort or one below it, stands at the other place
    pub record IsFirstLow (from i : ℕ) : Type 0 where
      pub at : Rank
      pub is : slice_get ranks i ≡ Some at
      pub low : AtOrBelow d at.result s
      pub before : (j : ℕ) (r : Rank) → from ≤ j → j < i → slice_get ranks j ≡ Some r → AtOrBelow d r.result s → ⊥

    -- each of them, from this place on, that gives the sort or one below it has its arguments at or below these
    abbrev pub AreServed : ℕ → Row → Type 0
    AreServed from args = (j : ℕ) (r : Rank) → from ≤ j → slice_get ranks j ≡ Some r → AtOrBelow d r.result s → IsRowBelow d r.args args

    -- the rank at this place gives the sort or one below it, and its arguments are above those of all others that do
    pub record IsTopLow (i : ℕ) : Type 0 where
      pub at : Rank
      pub is : slice_get ranks i ≡ Some at
      pub low : AtOrBelow d at.result s
      pub others : (j : ℕ) (r : Rank) → slice_get ranks j ≡ Some r → AtOrBelow d r.result s → IsRowBelow d r.args at.args
