-- The law, by its lemma.
use Rattle.fvn_weights_reading.proofs.Texts.{determined}
use Rattle.fvn_weights_reading.proofs.laws.weights_are_determined.Goals as goal

pub returns : goal.returns
returns c = determined
