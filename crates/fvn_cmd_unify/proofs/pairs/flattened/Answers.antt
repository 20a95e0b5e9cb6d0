-- One more pair is flattened.
use Rattle.fvn_cmd_unify.proofs.Flattening.{left-term, right-term, flat_of-more}
use Rattle.fvn_cmd_unify.proofs.pairs.flattened.Goals as goal

pub loop-left-preserved : goal.loop-left-preserved
loop-left-preserved c =
    flat_of-more c.args.signature.now c.args.pairs.now c.loop-left.left-index c.loop-left-item.result c.loop-left-test.true c.loop-left-item.is
    c.loop-left.all.items _ c.loop-left.invariant c.in_ok-a.a c.in_ok-b.b c.in_ok-a.ensures.exact c.in_ok-b.ensures.exact c.in_ok-push.ensures.items

pub flatten-requires : goal.flatten-requires
flatten-requires c = left-term c.args.signature.now c.args.pairs.now c.loop-left.left-index c.loop-left-item.result c.loop-left-test.true c.loop-left-item.is c.requires

pub flatten-requires-in-loop-left : goal.flatten-requires-in-loop-left
flatten-requires-in-loop-left c = right-term c.args.signature.now c.args.pairs.now c.loop-left.left-index c.loop-left-item.result c.loop-left-test.true c.loop-left-item.is c.requires
