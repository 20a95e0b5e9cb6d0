-- The sorts after which kinds are named.
use Rattle.std.specs.Prelude.{Bool, not, ◌&&◌, List, map, find, unwrap_or}
use Rattle.std.specs.List.{list_all, range_with_len}
use Rattle.fvn_terms.specs.declared.plain.SortId.{SortId}
use Rattle.fvn_forms.specs.SortOrder.{sort_number, same_sort}
use Rattle.fvn_signature.specs.FirstSorts.{first_sorts}
use Rattle.fvn_signature_draft.specs.declared.collected.Collected.{Collected}
use Rattle.fvn_signature_draft.specs.Collected.{kind_of, parts_before}

module _ (c : Collected) where
  -- whether no pair of the order leads up from the sort
  abbrev pub is_maximal : SortId → Bool
  is_maximal s = list_all (λ p. not (same_sort p.0 s)) c.below

  -- whether the sort is a maximal one of the kind
  abbrev pub is_maximal_of : SortId → SortId → Bool
  is_maximal_of k s = same_sort (kind_of c s) k && is_maximal s

  -- the sort after which a kind is named: the first of its maximal sorts; where a cycle leaves none, the kind itself
  abbrev pub top_in : SortId → SortId
  top_in k = unwrap_or (find (is_maximal_of k) (first_sorts c.sorts)) k

  -- the sorts after which the kinds are named, in the order of the kinds
  abbrev pub tops : List SortId
  tops = map top_in (map sort_number (range_with_len c.sorts (parts_before c c.sorts)))
