-- The pairs of distinct sorts are those of the groups.
use Rattle.std.proofs.Common.{map, ap, ◌∙◌}
use Rattle.fvn_forms.specs.SortOrder.{sort_number}
use Rattle.fvn_module_names.specs.Order.{declared_among}
use Rattle.fvn_module_declarations.proofs.DistinctLists.{crossed_distinct}
use Rattle.fvn_module_declarations.proofs.pairs.PairBuilder.add_groups.Goals as goal

pub returns : goal.returns
returns c =
    let lows = ap (map sort_number) c.as_slice.ensures.value ∙ c.in_ok-lows.ensures.exact in
    let highs = ap (map sort_number) c.as_slice-2.ensures.value ∙ c.in_ok-highs.ensures.exact in
    (rw (lows, highs) at c.in_ok-pairs.ensures) ∙ crossed_distinct c.args.self (declared_among c.args.sorts.now c.args.lower.now) (declared_among c.args.sorts.now c.args.upper.now)
