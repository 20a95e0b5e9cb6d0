-- The sorts that are left are still to be put below.
use Rattle.std.proofs.Common.{◌≡◌, map, drop}
use Rattle.fvn_forms.specs.SortOrder.{sort_number}
use Rattle.fvn_module_names.specs.Order.{crossed}
use Rattle.fvn_module_declarations.specs.inner.Pairs.{with_more}
use Rattle.fvn_module_declarations.proofs.pairs.PairBuilder.add_crossed.Given as goal

-- the sorts that are left are still to be put below
abbrev pub invariant-loop-low : goal.invariant-loop-low
invariant-loop-low l =
    with_more l.pairs (crossed (map sort_number (drop l.low-index l.lows)) (map sort_number l.highs)) ≡ with_more l.fn.self (crossed (map sort_number l.lows) (map sort_number l.highs))
