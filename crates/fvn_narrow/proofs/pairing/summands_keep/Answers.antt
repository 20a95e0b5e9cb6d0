-- One rank more.
use Rattle.std.proofs.Common.{arith}
use Rattle.fvn_narrow.proofs.Keeping.{none_keep, more_keep, all_keep}
use Rattle.fvn_narrow.proofs.pairing.summands_keep.Goals as goal

pub loop-i-init : goal.loop-i-init
loop-i-init c = none_keep c.args.sig.now c.args.f c.args.s

pub loop-i-preserved : goal.loop-i-preserved
loop-i-preserved c = more_keep c.args.sig.now c.args.f c.args.s c.loop-i.i c.loop-i.invariant c.rank.result.now c.rank.ensures (c.rank_keeps.ensures c.if-not-rank_keeps.false)

pub returns : goal.returns
returns c = λ yes. all_keep c.args.sig.now c.recall_good.ensures c.args.f c.requires c.args.s c.loop-i.i (omega (arith, c.loop-i-test.false, c.rank_count-i-end.ensures)) c.loop-i.invariant
