-- There is one at least, and one at most.
use Rattle.fvn_combine_inferring.proofs.Told.{one_summand}
use Rattle.fvn_combine_inferring.proofs.bounds.is_summand.Goals as goal

pub returns : goal.returns
returns c t values go =
    one_summand c.args.sig.now c.args.table.now c.args.state.now c.args.known.now.sorted c.args.addition.now.operator values go c.args.k (c.has_few_summands.ensures t values go) (c.has_summand.ensures c.if-not-has_summand.false values go)
