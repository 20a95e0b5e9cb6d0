-- The invariant of the search for a sort between two others.
use Rattle.std.proofs.Common.{◌≡◌, ◌-◌, ◌&&◌, not, map}
use Rattle.std.specs.List.{list_all, range_with_len}
use Rattle.fvn_forms.specs.SortOrder.{sort_number}
use Rattle.fvn_signature.specs.FirstSorts.{first_sorts}
use Rattle.fvn_signature.specs.Queries.{is_below}
use Rattle.fvn_signature.proofs.queries.subsorts.is_nothing_between.Given as goal

-- the sorts that are left decide
abbrev pub invariant-loop-q : goal.invariant-loop-q
invariant-loop-q l = list_all (λ q. not (is_below l.draft.declarations l.t q && is_below l.draft.declarations q l.s)) (first_sorts l.draft.declarations.sorts) ≡ list_all (λ q. not (is_below l.draft.declarations l.t q && is_below l.draft.declarations q l.s)) (map sort_number (range_with_len l.q (l.draft.declarations.sorts - l.q)))
