-- The value is too small, or one other summand.
use Rattle.fvn_combine_inferring.proofs.Sizing.{larger_out, few_out}
use Rattle.fvn_combine_inferring.proofs.differing.is_no_summand.Goals as goal

pub returns-then-is_smaller : goal.returns-then-is_smaller
returns-then-is_smaller c t =
    larger_out c.args.sig.now c.args.table.now c.args.state.now c.args.known.now.sorted c.args.addition.now.operator c.args.insides.now c.requires.insides c.args.k c.args.l (c.is_smaller.ensures c.if-is_smaller.true)

pub returns : goal.returns
returns c t =
    few_out c.args.sig.now c.args.table.now c.args.state.now c.args.known.now.sorted c.args.addition.now.operator c.args.k c.args.l (c.has_few_summands.ensures c.if-not-has_few_summands.false) (c.differ.ensures t)
