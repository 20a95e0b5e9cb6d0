-- The law, by its lemma.
use Rattle.fvn_combine_loose.proofs.Spreading.{loose_variables}
use Rattle.fvn_combine_loose.proofs.laws.loose_classes_are_variables.Goals as goal

pub returns : goal.returns
returns c = loose_variables c.sorted_unifiers_go_with.ensures
