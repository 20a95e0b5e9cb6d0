-- The law is a lemma.
use Rattle.fvn_module_loading.proofs.Loaded.{faults-once}
use Rattle.fvn_module_loading.proofs.laws.load_faults_are_determined.Goals as goal

pub returns : goal.returns
returns c = λ bytes f g a b. faults-once c.modules_are_determined.ensures c.refused_texts_declare_nothing.ensures c.refusals_are_determined.ensures bytes f g a b
