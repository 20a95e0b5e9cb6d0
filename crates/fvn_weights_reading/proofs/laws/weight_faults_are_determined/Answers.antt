-- The law, by its lemma.
use Rattle.fvn_weights_reading.proofs.Texts.{faults-determined}
use Rattle.fvn_weights_reading.proofs.laws.weight_faults_are_determined.Goals as goal

pub returns : goal.returns
returns c = faults-determined
