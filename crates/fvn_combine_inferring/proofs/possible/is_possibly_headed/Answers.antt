-- Both heads make one summand.
use Rattle.fvn_combine_inferring.proofs.EitherHead.{either_summand}
use Rattle.fvn_combine_inferring.proofs.possible.is_possibly_headed.Goals as goal

pub returns-else-not-is_other_head : goal.returns-else-not-is_other_head
returns-else-not-is_other_head c t =
    either_summand c.args.sig.now c.args.table.now c.args.state.now c.args.known.now.sorted c.args.f c.args.k c.in-Some.p c.in-Some.ensures (c.is_other_head.ensures c.if-not-is_other_head.false) (c.is_other_head-in-Some.ensures t)
