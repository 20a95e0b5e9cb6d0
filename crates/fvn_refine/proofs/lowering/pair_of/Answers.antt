-- The two items.
use Rattle.fvn_refine.proofs.Steps.{two_items}
use Rattle.fvn_refine.proofs.lowering.pair_of.Goals as goal

pub returns : goal.returns
returns c = two_items c.args.row.now _ _ c.if-row-ne2.false
