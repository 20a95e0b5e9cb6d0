-- The law, by its lemma.
use Rattle.fvn_combine_bounds.proofs.Sorted.{narrow_one}
use Rattle.fvn_combine_bounds.proofs.laws.narrow_classes_have_one_summand.Goals as goal

pub returns : goal.returns
returns c = narrow_one c.unifiers_partition.ensures c.narrow_sorts_have_one_summand.ensures
