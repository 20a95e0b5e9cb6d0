-- The law, by its lemma.
use Rattle.fvn_combine_choices.proofs.Valid.{valid_choices}
use Rattle.fvn_combine_choices.proofs.laws.valid_choices_are_acceptable.Goals as goal

pub returns : goal.returns
returns c = valid_choices
