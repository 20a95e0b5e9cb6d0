-- The law, by its lemma.
use Rattle.fvn_combine_bounds.proofs.Sorted.{others_some}
use Rattle.fvn_combine_bounds.proofs.laws.other_classes_have_some_summand.Goals as goal

pub returns : goal.returns
returns c = others_some c.unifiers_partition.ensures c.other_sorts_have_some_summand.ensures
