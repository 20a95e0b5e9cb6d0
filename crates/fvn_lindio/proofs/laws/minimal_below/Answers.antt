-- The law is the lemma.
use Rattle.fvn_lindio.proofs.Solving.{minimal_below_each}
use Rattle.fvn_lindio.proofs.laws.minimal_below.Goals as goal

pub returns : goal.returns
returns c = minimal_below_each
