-- Going down a list of sorts.
use Rattle.std.specs.Prelude.{Option, Some, None, cond, List, [], ◌∷◌}
use Rattle.fvn_terms.specs.declared.plain.SortId.{SortId}
use Rattle.fvn_terms.specs.declared.declarations.Declarations.{Declarations}
use Rattle.fvn_forms.specs.SortOrder.{at_or_below}

module _ (d : Declarations) where
  -- the second where it is at or below the first, else the first
  abbrev pub lower_sort : SortId → SortId → SortId
  lower_sort s r = cond (at_or_below d r s) r s

  -- the same, and the second where there is no first
  abbrev pub lower : Option SortId → SortId → Option SortId
  lower None r = Some r
  lower (Some s) r = Some (lower_sort s r)

  -- from a sort down the list
  abbrev pub lowered_from : SortId → List SortId → SortId
  lowered_from s [] = s
  lowered_from s (r ∷ rs) = lowered_from (lower_sort s r) rs

  -- from the first of the list down
  abbrev pub lowered : Option SortId → List SortId → Option SortId
  lowered s [] = s
  lowered s (r ∷ rs) = lowered (lower s r) rs
