-- The law, by its lemma.
use Rattle.fvn_combine_bounds.proofs.Sorted.{narrow_untagged}
use Rattle.fvn_combine_bounds.proofs.laws.narrow_classes_have_no_tag.Goals as goal

pub returns : goal.returns
returns c = narrow_untagged c.unifiers_partition.ensures c.classes_have_one_kind.ensures c.narrow_sorts_have_no_sum.ensures c.other_classes_have_some_summand.ensures c.neutral_operators_admit_sums.ensures
