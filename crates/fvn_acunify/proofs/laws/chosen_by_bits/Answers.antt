-- The law is the lemma.
use Rattle.fvn_acunify.proofs.ChosenBits.{chosen_by_bits_each}
use Rattle.fvn_acunify.proofs.laws.chosen_by_bits.Goals as goal

pub returns : goal.returns
returns c = chosen_by_bits_each
