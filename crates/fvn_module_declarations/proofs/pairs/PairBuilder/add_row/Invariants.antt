-- The sorts that are left are still to be put above.
use Rattle.std.proofs.Common.{◌≡◌, map, drop}
use Rattle.fvn_forms.specs.SortOrder.{sort_number}
use Rattle.fvn_module_declarations.specs.inner.Pairs.{with_more, row}
use Rattle.fvn_module_declarations.proofs.pairs.PairBuilder.add_row.Given as goal

-- the sorts that are left are still to be put above
abbrev pub invariant-loop-high : goal.invariant-loop-high
invariant-loop-high l =
    with_more l.pairs (row (sort_number l.low) (map sort_number (drop l.high-index l.highs))) ≡ with_more l.fn.self (row (sort_number l.low) (map sort_number l.highs))
