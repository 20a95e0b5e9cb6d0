-- one form more, behind the others or before the rests
use Rattle.std.proofs.Common.{◌-◌, arith}
use Rattle.fvn_match.proofs.PatternOrder.{inserted_same, pushed_same}
use Rattle.fvn_match.proofs.rests.rests_last.Goals as goal

pub loop-i-preserved-in-Continue-1 : goal.loop-i-preserved-in-Continue-1
loop-i-preserved-in-Continue-1 c = record {
  within = omega (arith, c.loop-i.invariant.within);
  room = omega (arith, c.loop-i.invariant.room, c.in_ok-push.ensures.len);
  behind = rw c.in_ok-push.ensures.items (pushed_same c.args.ts.now c.loop-i.i (c.loop-i.i - 1) c.loop-i.all.items _ (omega arith) (omega (arith, c.loop-i.invariant.within)) c.index-ts-i.is c.loop-i.invariant.behind);
}

pub loop-i-preserved : goal.loop-i-preserved
loop-i-preserved c = record {
  within = omega (arith, c.loop-i.invariant.within);
  room = omega (arith, c.loop-i.invariant.room, c.in_ok-insert.ensures.len);
  behind = rw c.in_ok-insert.ensures.items (inserted_same c.args.ts.now c.loop-i.i (c.loop-i.i - 1) c.loop-i.first c.loop-i.all.items _ (omega arith) (omega (arith, c.loop-i.invariant.within)) c.index-ts-i-else-is_rest.is c.loop-i.invariant.behind);
}
