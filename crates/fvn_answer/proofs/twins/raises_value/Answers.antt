-- The variable itself.
use Rattle.fvn_answer.proofs.RisingTexts.{raises-unbound}
use Rattle.fvn_answer.proofs.twins.raises_value.Goals as goal

pub returns-in-None : goal.returns-in-None
returns-in-None c r = raises-unbound c.args.signature.now c.args.x c.args.y c.args.subst.now c.args.z (rw c.in-None.is at c.get.ensures) (c.are_one.ensures r)
