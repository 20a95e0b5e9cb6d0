-- The law `equality_is_an_equivalence`, by its lemma.
use Rattle.fvn_terms.specs.Places.{stop}
use Rattle.fvn_terms.proofs.Equal.{BEqual-sym, BEqual-trans}
use Rattle.fvn_terms.proofs.laws.equality_is_an_equivalence.Goals as goal

pub returns : goal.returns
returns c d = record { reflexive = λ t. stop; symmetric = λ t u. BEqual-sym d; transitive = λ t u v. BEqual-trans d }
