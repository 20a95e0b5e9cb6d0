-- One of the two bears the summand.
use Rattle.fvn_combine_loose.proofs.Summed.{bearing_first, bearing_second}
use Rattle.fvn_combine_loose.proofs.summing.is_bearing.Goals as goal

pub returns : goal.returns
returns c t = bearing_second c.args.state.now c.args.heights.now c.args.sums.now c.args.sum.0 c.args.sum.1 c.args.ks.now _ _ c.if-ks-ne2.false (c.bears_alone-2.ensures t)

pub returns-then-bears_alone : goal.returns-then-bears_alone
returns-then-bears_alone c t = bearing_first c.args.state.now c.args.heights.now c.args.sums.now c.args.sum.0 c.args.sum.1 c.args.ks.now _ _ c.if-ks-ne2.false (c.bears_alone.ensures c.if-bears_alone.true)
