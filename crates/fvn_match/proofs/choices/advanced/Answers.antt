-- the next choice, in place
use Rattle.std.proofs.Common.{◌<◌, length, sym, ◌∙◌, arith}
use Rattle.fvn_match.proofs.Placing.{raised_placed, carried_placed, zero_placed, sum_placed}
use Rattle.fvn_match.proofs.choices.advanced.Goals as goal

pub returns-then-may_rise : goal.returns-then-may_rise
returns-then-may_rise c =
    raised_placed c.args.chosen.items c.loop-i.i (omega (arith, c.requires.long)) c.args.room c.args.limits.now (omega arith) c.loop-i.all.items c.loop-i.invariant.placed c.loop-i.together c.loop-i.invariant.left c.loop-i.invariant.same c.index.result.now c.index_mut.result.now c.index.ensures c.index_mut.ensures.value
    (sym c.may_rise.ensures ∙ c.if-may_rise.true)

pub loop-i-preserved : goal.loop-i-preserved
loop-i-preserved c =
    let s = c.args.chosen.items in
    let within : c.loop-i.i < length s = omega (arith, c.requires.long) in
    record {
      placed = zero_placed s c.loop-i.i within c.args.room c.args.limits.now (omega arith) c.loop-i.all.items c.loop-i.invariant.placed c.loop-i.together c.loop-i.invariant.left c.loop-i.invariant.same c.index.result.now c.index-in-loop-i.result.now c.index.ensures c.index-in-loop-i.ensures;
      left = sum_placed s c.loop-i.i within c.args.room c.args.limits.now (omega arith) c.loop-i.all.items c.loop-i.invariant.placed c.loop-i.together c.loop-i.invariant.left c.loop-i.invariant.same c.index.result.now c.index-in-loop-i.result.now c.index.ensures c.index-in-loop-i.ensures;
      same = carried_placed s c.loop-i.i within c.args.room c.args.limits.now (omega arith) c.loop-i.all.items c.loop-i.invariant.placed c.loop-i.together c.loop-i.invariant.left c.loop-i.invariant.same c.index.result.now c.index-in-loop-i.result.now c.index.ensures c.index-in-loop-i.ensures
          (sym c.may_rise.ensures ∙ c.if-may_rise.false);
    }
