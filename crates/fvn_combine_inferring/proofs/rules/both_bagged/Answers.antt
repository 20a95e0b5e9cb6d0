-- The sides in the other order.
use Rattle.fvn_combine_inferring.proofs.Told.{other_side}
use Rattle.fvn_combine_inferring.proofs.rules.both_bagged.Goals as goal

pub bagged-requires-clause-sides : goal.bagged-requires-clause-sides
bagged-requires-clause-sides c = other_side c.args.sig.now c.args.table.now c.args.state.now c.args.known.now.sorted c.args.addition.now.operator c.args.left.now c.args.right.now c.requires.sides
