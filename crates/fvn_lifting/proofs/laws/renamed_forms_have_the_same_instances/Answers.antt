-- The law, by its lemma.
use Rattle.fvn_lifting.proofs.Renaming.{back, one_instance}
use Rattle.fvn_lifting.proofs.laws.renamed_forms_have_the_same_instances.Goals as goal

pub returns : goal.returns
returns c = λ d good vars v w fits is s sorted. (back d good vars v w fits is s sorted, one_instance d good vars v w fits is s sorted)
