-- The kinds of the sorts, and then the first kinds.
use Rattle.std.proofs.Common.{◌≡◌, ◌++◌, ◌-◌, ◌<◌, map, length}
use Rattle.std.specs.List.{All, range_with_len}
use Rattle.fvn_forms.specs.SortOrder.{sort_number}
use Rattle.fvn_signature.specs.FirstSorts.{first_sorts}
use Rattle.fvn_signature_draft.specs.Collected.{kind_of}
use Rattle.fvn_module_names.specs.Order.{ordered}
use Rattle.fvn_module_names.proofs.kinds.find_kinds.Given as goal

-- the kinds of the sorts, and then the first kinds
abbrev pub invariant-loop-kind : goal.invariant-loop-kind
invariant-loop-kind l = record {
  numbers : map sort_number l.kinds.items ≡ map (kind_of (ordered l.sorts l.statements)) (first_sorts (length l.sorts)) ++ map sort_number (range_with_len (length l.sorts) (l.kind - length l.sorts));
  below : All (λ k. k < l.next) l.kinds.items;
}
