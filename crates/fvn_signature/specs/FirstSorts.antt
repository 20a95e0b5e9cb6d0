-- The sorts by their numbers.
use Rattle.std.specs.Prelude.{ℕ, List, map}
use Rattle.std.specs.List.{range_with_len}
use Rattle.fvn_terms.specs.declared.plain.SortId.{SortId}
use Rattle.fvn_forms.specs.SortOrder.{sort_number}

-- the first n sorts
abbrev pub first_sorts : ℕ → List SortId
first_sorts n = map sort_number (range_with_len 0 n)
