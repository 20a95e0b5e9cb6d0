-- The sides in the other order.
use Rattle.fvn_combine_inferring.proofs.Told.{other_side}
use Rattle.fvn_combine_inferring.proofs.rules.rule.Goals as goal

pub counted-told_right-requires-clause-sides : goal.counted-told_right-requires-clause-sides
counted-told_right-requires-clause-sides c = other_side c.args.sig.now c.args.table.now c.args.state.now c.args.known.now.sorted c.args.addition.now.operator c.args.left.now c.args.right.now c.requires.sides
