-- The law, by its lemma.
use Rattle.fvn_combine_inferring.proofs.SortedValues.{sorted_values}
use Rattle.fvn_combine_inferring.proofs.laws.sorted_unifiers_go_with.Goals as goal

pub returns : goal.returns
returns c = sorted_values c.unifiers_go_with.ensures c.narrow_classes_have_one_summand.ensures c.other_classes_have_some_summand.ensures
