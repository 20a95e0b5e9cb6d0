-- The law `covering_is_reflexive_and_transitive`, by its lemma.
use Rattle.fvn_terms.proofs.Covering.{covering_is_an_order}
use Rattle.fvn_terms.proofs.laws.covering_is_reflexive_and_transitive.Goals as goal

pub returns : goal.returns
returns c = covering_is_an_order
