-- One pair is out of reach.
use Rattle.fvn_cover.proofs.Reaching.{reached_nowhere}
use Rattle.fvn_cover.proofs.reach.may_reach_all.Goals as goal

pub returns-then-not-may_reach : goal.returns-then-not-may_reach
returns-then-not-may_reach c = λ _.
    let i = c.loop-i.i in
    reached_nowhere c.args.sig.now c.recall_good.ensures c.args.patterns.now c.args.targets.now i c.index-patterns-i.result c.index-targets-i.result
    c.requires.lengths c.loop-i-test.true c.index-patterns-i.is c.index-targets-i.is c.requires.targets (c.may_reach.ensures c.if-not-may_reach.true)
