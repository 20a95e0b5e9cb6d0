-- One more pair.
use Rattle.fvn_combine_inferring.proofs.sizes.follow_all.Goals as goal

pub loop-pair-preserved : goal.loop-pair-preserved
loop-pair-preserved c w k said h = c.follow-new.ensures w k (said c.loop-pair.pair-index _ c.loop-pair-test.true) (c.loop-pair.invariant w k said h)
