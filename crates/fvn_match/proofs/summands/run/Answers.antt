-- one form more
use Rattle.std.proofs.Common.{arith}
use Rattle.fvn_match.proofs.Runs.{run_more}
use Rattle.fvn_match.proofs.summands.run.Goals as goal

pub loop-i-preserved : goal.loop-i-preserved
loop-i-preserved c = run_more c.args.ts.now c.loop-i.i c.index-ts-0.result c.index-ts-i.result (omega arith) c.loop-i.invariant c.index-ts-i.is (c.same.ensures.exact.0 c.if-not-same.false)
