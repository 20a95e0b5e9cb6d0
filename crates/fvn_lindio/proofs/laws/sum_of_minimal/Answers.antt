-- The law is the lemma.
use Rattle.fvn_lindio.proofs.SumLemmas.{sum_of_minimal_each}
use Rattle.fvn_lindio.proofs.laws.sum_of_minimal.Goals as goal

pub returns : goal.returns
returns c = sum_of_minimal_each
