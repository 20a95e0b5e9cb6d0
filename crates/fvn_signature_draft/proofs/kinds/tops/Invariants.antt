-- The invariant of the list of tops.
use Rattle.std.proofs.Common.{◌≡◌, ◌-◌, map}
use Rattle.std.specs.List.{range_with_len}
use Rattle.fvn_forms.specs.SortOrder.{sort_number}
use Rattle.fvn_signature_draft.specs.Tops.{top_in}
use Rattle.fvn_signature_draft.proofs.kinds.tops.Given as goal

-- the tops of the first kinds
abbrev pub invariant-loop-k : goal.invariant-loop-k
invariant-loop-k l = l.list.items ≡ map (top_in l.collected) (map sort_number (range_with_len l.collected.sorts (l.k - l.collected.sorts)))
