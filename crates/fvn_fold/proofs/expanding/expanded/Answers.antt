-- one more expansion
use Rattle.fvn_fold.proofs.Expansions.{expansions_more}
use Rattle.fvn_fold.proofs.expanding.expanded.Goals as goal

pub loop-v-preserved : goal.loop-v-preserved
loop-v-preserved g c =
    rw c.in_ok-push.ensures.items
    (expansions_more (g.E.Expander.setting c.args.expander.now) (g.E.Expander.drawn c.args.expander.now) c.args.members.now c.loop-v.v-index c.v-item.result c.loop-v.es.items c.in_ok-e.e c.loop-v-test.true c.v-item.is c.loop-v.invariant
    record { children = c.in_ok-e.ensures.children; whole = c.in_ok-e.ensures.whole; cause = c.in_ok-e.ensures.cause })
