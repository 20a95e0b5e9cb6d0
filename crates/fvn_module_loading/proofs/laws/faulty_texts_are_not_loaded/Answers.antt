-- The law is a lemma.
use Rattle.fvn_module_loading.proofs.Loaded.{faulty-apart}
use Rattle.fvn_module_loading.proofs.laws.faulty_texts_are_not_loaded.Goals as goal

pub returns : goal.returns
returns c = λ bytes f m a b. faulty-apart c.modules_are_determined.ensures c.refused_texts_declare_nothing.ensures bytes f m a b
