-- The pairs of one more group.
use Rattle.std.proofs.Common.{◌-◌, List, take, sym, ap, ◌∙◌, arith}
use Rattle.std.proofs.lemmas.List.{get_or_read}
use Rattle.fvn_syntax.specs.Pieces.{Text}
use Rattle.fvn_module_names.specs.Order.{declared_among, crossed, pairs_of_groups}
use Rattle.fvn_module_declarations.specs.inner.Pairs.{with_more}
use Rattle.fvn_module_names.proofs.OrderLemmas.{groups-more-at}
use Rattle.fvn_module_declarations.proofs.DistinctLists.{with_more-append}
use Rattle.fvn_module_declarations.proofs.pairs.PairBuilder.add_neighbours.Goals as goal

pub loop-i-preserved : goal.loop-i-preserved
loop-i-preserved c =
    let lower : List Text = c.as_slice-lower.result.now in
    let upper : List Text = c.as_slice.result.now in
    let more = groups-more-at c.args.sorts.now c.args.groups.now (c.loop-i.i - 1) c.loop-i.i lower upper (omega arith) c.loop-i-test.true
    (c.as_slice-lower.ensures ∙ get_or_read c.args.groups.now (c.loop-i.i - 1) c.index-groups-i.result (omega arith) c.index-groups-i.is lower)
    (c.as_slice.ensures ∙ get_or_read c.args.groups.now c.loop-i.i c.index-groups-i-in-loop-i.result c.loop-i-test.true c.index-groups-i-in-loop-i.is upper) in
    c.in_ok-pairs.ensures
    ∙ ap (λ b. with_more b (crossed (declared_among c.args.sorts.now lower) (declared_among c.args.sorts.now upper))) c.loop-i.invariant
    ∙ sym (with_more-append c.args.self (pairs_of_groups c.args.sorts.now (take c.loop-i.i c.args.groups.now)) (crossed (declared_among c.args.sorts.now lower) (declared_among c.args.sorts.now upper)))
    ∙ ap (with_more c.args.self) (sym more)
