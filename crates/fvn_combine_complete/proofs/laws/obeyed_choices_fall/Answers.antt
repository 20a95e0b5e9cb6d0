-- The law, by its lemma.
use Rattle.fvn_combine_complete.proofs.Falling.{ranked}
use Rattle.fvn_combine_complete.proofs.laws.obeyed_choices_fall.Goals as goal

pub returns : goal.returns
returns c = ranked
