-- The law, by its lemma.
use Rattle.fvn_combine_choices.proofs.New.{unfold_to_new}
use Rattle.fvn_combine_choices.proofs.laws.planned_bindings_unfold_to_new.Goals as goal

pub returns : goal.returns
returns c = unfold_to_new
