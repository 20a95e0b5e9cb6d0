-- The law is a lemma.
use Rattle.fvn_module_loading.proofs.Loaded.{loaded-once}
use Rattle.fvn_module_loading.proofs.laws.loaded_modules_are_determined.Goals as goal

pub returns : goal.returns
returns c = λ bytes m k a b. loaded-once c.modules_are_determined.ensures bytes m k a b
