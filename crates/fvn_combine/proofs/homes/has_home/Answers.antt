-- One more solution.
use Rattle.fvn_combine.specs.inner.Homes.{IsNoHome}
use Rattle.fvn_combine.proofs.Items.{more_items, all_items}
use Rattle.fvn_combine.proofs.homes.has_home.Goals as goal

pub loop-v-preserved : goal.loop-v-preserved
loop-v-preserved c =
    more_items (IsNoHome c.args.decided.now c.args.tags.now c.args.reading.now c.args.entry.now c.args.j) c.args.basis.now c.loop-v.v-index c.v-item.result c.loop-v-test.true c.v-item.is c.loop-v.invariant (c.is_home.ensures c.if-is_home.false)

pub returns : goal.returns
returns c = λ none.
    all_items (IsNoHome c.args.decided.now c.args.tags.now c.args.reading.now c.args.entry.now c.args.j) c.args.basis.now c.loop-v.v-index c.loop-v-test.false c.loop-v.invariant
