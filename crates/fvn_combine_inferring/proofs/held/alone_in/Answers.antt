-- A list of one number.
use Rattle.fvn_combine_inferring.proofs.Wholes.{one_alone}
use Rattle.fvn_combine_inferring.proofs.held.alone_in.Goals as goal

pub returns-then-list-eq1 : goal.returns-then-list-eq1
returns-then-list-eq1 c = one_alone c.args.list.now _ c.if-list-eq1.true
