-- The law is a lemma.
use Rattle.fvn_module.proofs.OneText.{module-once}
use Rattle.fvn_module.proofs.laws.modules_are_determined.Goals as goal

pub returns : goal.returns
returns c = λ bytes m k a b. module-once c.statements_are_determined.ensures bytes m k a b
