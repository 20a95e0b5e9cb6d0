-- The law, by its lemma.
use Rattle.fvn_combine_complete.proofs.Obeying.{obeyed_choice}
use Rattle.fvn_combine_complete.proofs.laws.values_obey_choices.Goals as goal

pub returns : goal.returns
returns c = obeyed_choice c.values_choose.ensures c.no_aliases.ensures c.made_up_by_taken.ensures
