-- The law is a lemma.
use Rattle.fvn_module_loading.proofs.Losses.{losses-once}
use Rattle.fvn_module_loading.proofs.laws.losses_are_determined.Goals as goal

pub returns : goal.returns
returns c = λ m a b p q. losses-once m a b p q
