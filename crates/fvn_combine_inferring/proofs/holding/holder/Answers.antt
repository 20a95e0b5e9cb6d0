-- One class alone may have the summand.
use Rattle.fvn_combine_inferring.proofs.Pairing.{held_pair}
use Rattle.fvn_combine_inferring.proofs.holding.holder.Goals as goal

pub returns-else-not-is_only : goal.returns-else-not-is_only
returns-else-not-is_only c =
    held_pair c.args.sig.now c.args.table.now c.args.state.now c.requires.closed c.args.known.now.sorted c.args.addition.now.operator c.args.k c.in-Some.l c.args.list.now c.requires.one c.requires.among (c.is_only.ensures c.if-not-is_only.false) c.requires.within c.in-Some.ensures
    c.differ-proper.result c.differ-proper.ensures
