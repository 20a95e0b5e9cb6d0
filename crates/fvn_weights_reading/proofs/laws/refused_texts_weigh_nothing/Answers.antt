-- The law, by its lemma.
use Rattle.fvn_weights_reading.proofs.Texts.{nothing}
use Rattle.fvn_weights_reading.proofs.laws.refused_texts_weigh_nothing.Goals as goal

pub returns : goal.returns
returns c = nothing
