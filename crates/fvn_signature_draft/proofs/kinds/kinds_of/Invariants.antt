-- The invariant of the list of kinds.
use Rattle.std.proofs.Common.{◌≡◌, ◌++◌, ◌-◌, map}
use Rattle.std.specs.List.{range_with_len}
use Rattle.fvn_forms.specs.SortOrder.{sort_number}
use Rattle.fvn_signature.specs.FirstSorts.{first_sorts}
use Rattle.fvn_signature_draft.specs.Collected.{kind_of}
use Rattle.fvn_signature_draft.proofs.kinds.kinds_of.Given as goal

-- the kinds of the sorts, and the first kinds
abbrev pub invariant-loop-k : goal.invariant-loop-k
invariant-loop-k l = l.kinds.items ≡ map (kind_of l.collected) (first_sorts l.collected.sorts) ++ map sort_number (range_with_len l.collected.sorts (l.k - l.collected.sorts))
