-- The invariant of the search for a joined sort.
use Rattle.std.proofs.Common.{◌≡◌, ◌-◌, map}
use Rattle.std.specs.Prelude.{find}
use Rattle.std.specs.List.{range_with_len}
use Rattle.fvn_forms.specs.SortOrder.{sort_number}
use Rattle.fvn_signature.specs.FirstSorts.{first_sorts}
use Rattle.fvn_signature_draft.specs.Collected.{joins}
use Rattle.fvn_signature_draft.proofs.kinds.first_joined.Given as goal

-- the sorts that are left decide
abbrev pub invariant-loop-q : goal.invariant-loop-q
invariant-loop-q l = find (joins l.collected (sort_number l.s)) (first_sorts l.collected.sorts) ≡ find (joins l.collected (sort_number l.s)) (map sort_number (range_with_len l.q (l.collected.sorts - l.q)))
