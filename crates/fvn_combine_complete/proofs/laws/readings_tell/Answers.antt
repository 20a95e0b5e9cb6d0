-- The law, by its lemma.
use Rattle.fvn_combine_complete.proofs.Telling.{readings_tell}
use Rattle.fvn_combine_complete.proofs.laws.readings_tell.Goals as goal

pub returns : goal.returns
returns c = readings_tell
