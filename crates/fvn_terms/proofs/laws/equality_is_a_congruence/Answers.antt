-- The law `equality_is_a_congruence`, by its lemma.
use Rattle.fvn_terms.proofs.Packs.{congruence}
use Rattle.fvn_terms.proofs.laws.equality_is_a_congruence.Goals as goal

pub returns : goal.returns
returns c d = congruence
