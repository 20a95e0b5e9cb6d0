-- The invariant of the search for a maximal sort.
use Rattle.std.proofs.Common.{◌≡◌, ◌-◌, map}
use Rattle.std.specs.Prelude.{find}
use Rattle.std.specs.List.{range_with_len}
use Rattle.fvn_forms.specs.SortOrder.{sort_number}
use Rattle.fvn_signature.specs.FirstSorts.{first_sorts}
use Rattle.fvn_signature_draft.specs.Tops.{is_maximal_of}
use Rattle.fvn_signature_draft.proofs.kinds.top_in.Given as goal

-- the sorts that are left decide
abbrev pub invariant-loop-s : goal.invariant-loop-s
invariant-loop-s l = find (is_maximal_of l.collected l.k) (first_sorts l.collected.sorts) ≡ find (is_maximal_of l.collected l.k) (map sort_number (range_with_len l.s (l.collected.sorts - l.s)))
