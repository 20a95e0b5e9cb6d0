-- One more variant is alike.
use Rattle.fvn_cover.specs.Covering.{AreAlike}
use Rattle.fvn_tests_matching.proofs.Alike.{all_more, all_seen}
use Rattle.fvn_tests_matching.proofs.tests.variants.is_alike_all.Goals as goal

pub loop-b-preserved : goal.loop-b-preserved
loop-b-preserved c = all_more (AreAlike c.args.a.now) c.args.list.now c.loop-b.b-index c.b-item.result c.loop-b-test.true c.b-item.is c.loop-b.invariant (c.is_alike.ensures c.if-not-is_alike.false)

pub returns : goal.returns
returns c = λ t. all_seen (AreAlike c.args.a.now) c.args.list.now c.loop-b.b-index c.loop-b-test.false c.loop-b.invariant
