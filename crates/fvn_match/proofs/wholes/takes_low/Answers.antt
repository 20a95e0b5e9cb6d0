-- An argument of the sort.
use Rattle.std.proofs.Common.{arith}
use Rattle.fvn_match.proofs.LowSums.{takes_at}
use Rattle.fvn_match.proofs.wholes.takes_low.Goals as goal

pub returns-then-low : goal.returns-then-low
returns-then-low c = λ yes. takes_at c.args.sig.now c.args.s c.args.rank.now c.as_slice-args.result.now c.loop-i.i _ c.as_slice-args.ensures (omega arith) (c.leq-low.ensures.0 c.if-low.true)
