-- There are more classes with a summand than summands.
use Rattle.fvn_combine_inferring.proofs.Told.{counted_out}
use Rattle.fvn_combine_inferring.proofs.rules.counted.Goals as goal

pub returns-then-is_more : goal.returns-then-is_more
returns-then-is_more c =
    counted_out c.args.sig.now c.args.table.now c.args.state.now c.args.known.now.sorted c.args.addition.now.operator c.count_summands-count.result c.args.first.now c.args.second.now (c.have_few_summands.ensures c.if-not-have_few_summands.false) c.count_summands-count.ensures (c.is_more.ensures.0 c.if-is_more.true) c.requires.sides
