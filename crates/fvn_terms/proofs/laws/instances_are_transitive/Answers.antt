-- The law `instances_are_transitive`, by its lemma.
use Rattle.fvn_terms.proofs.Instances.{instances_chain}
use Rattle.fvn_terms.proofs.laws.instances_are_transitive.Goals as goal

pub returns : goal.returns
returns c = λ d equations vars. instances_chain d vars equations
