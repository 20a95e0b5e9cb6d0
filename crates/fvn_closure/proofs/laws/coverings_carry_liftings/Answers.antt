-- by composing the covering substitution with that of the lifting
use Rattle.fvn_closure.proofs.Carrying.{carried}
use Rattle.fvn_closure.proofs.laws.coverings_carry_liftings.Goals as goal

pub returns : goal.returns
returns c = λ g. carried g (c.rewriting_is_lawful.ensures g.declarations g.equations)
