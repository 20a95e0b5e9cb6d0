-- One more variant is alike all others.
use Rattle.std.specs.Prelude.{All}
use Rattle.fvn_cover.specs.Covering.{AreAlike}
use Rattle.fvn_tests_matching.proofs.Alike.{all_more, all_seen}
use Rattle.fvn_tests_matching.proofs.tests.variants.are_all_alike.Goals as goal

pub loop-a-preserved : goal.loop-a-preserved
loop-a-preserved c = all_more (λ a. All (AreAlike a) c.args.others.now) c.args.list.now c.loop-a.a-index c.a-item.result c.loop-a-test.true c.a-item.is c.loop-a.invariant (c.is_alike_all.ensures c.if-not-is_alike_all.false)

pub returns : goal.returns
returns c = λ t. all_seen (λ a. All (AreAlike a) c.args.others.now) c.args.list.now c.loop-a.a-index c.loop-a-test.false c.loop-a.invariant
