-- One point more, and all of them in the end.
use Rattle.fvn_lindio.proofs.LevelLemmas.{this_one}
use Rattle.fvn_lindio.proofs.LeastLemmas.{kept_more, kept_all, kept_sized}
use Rattle.fvn_lindio.proofs.least.least_of.Goals as goal

pub consider-requires : goal.consider-requires
consider-requires c =
    let sized = kept_sized c.args.points.now c.loop-p.p-index c.p-item.result c.loop-p.list.items c.requires (this_one c.args.points.now c.loop-p.p-index c.p-item.result c.loop-p-test.true c.p-item.is) c.loop-p.invariant.1 in
    record { ordered = record { sized = sized; ordered = c.loop-p.invariant.0 } }

pub loop-p-preserved : goal.loop-p-preserved
loop-p-preserved c =
    (c.in_ok-consider.ensures.ordered.ordered, kept_more c.args.points.now c.loop-p.p-index c.p-item.result c.loop-p.list.items c.consider.new.list.items c.loop-p-test.true c.p-item.is c.loop-p.invariant.1 c.in_ok-consider.ensures.exact)

pub returns-clause-exact : goal.returns-clause-exact
returns-clause-exact c = kept_all c.args.points.now c.loop-p.p-index c.loop-p.list.items c.loop-p-test.false c.loop-p.invariant.1
