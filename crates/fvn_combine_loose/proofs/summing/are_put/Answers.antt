-- One node more.
use Rattle.std.proofs.Common.{length, ap, arith}
use Rattle.fvn_combine_loose.specs.inner.Checks.{IsPut}
use Rattle.fvn_combine_loose.proofs.Checked.{one_more}
use Rattle.fvn_combine_loose.proofs.summing.are_put.Goals as goal

pub loop-i-preserved : goal.loop-i-preserved
loop-i-preserved c =
    one_more (IsPut c.args.sig.now c.args.table.now c.args.state.now c.args.facts.now.sorted c.args.draft.now.heights.items c.args.draft.now.sums.items c.args.facts.now.fine.now c.args.draft.now.bottom)
    c.loop-i.i c.loop-i.invariant (c.is_put.ensures c.if-not-is_put.false)

pub returns : goal.returns
returns c _ =
    let end = c.loop-i-test.false in
    let all = ap length c.nodes-i-end.ensures in
    λ i l. c.loop-i.invariant i (omega (arith, l, end, all))
