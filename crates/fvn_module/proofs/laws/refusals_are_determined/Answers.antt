-- The law is a lemma.
use Rattle.fvn_module.proofs.OneText.{fault-once}
use Rattle.fvn_module.proofs.laws.refusals_are_determined.Goals as goal

pub returns : goal.returns
returns c = λ bytes f g h k. fault-once c.statements_are_determined.ensures bytes f g h k
