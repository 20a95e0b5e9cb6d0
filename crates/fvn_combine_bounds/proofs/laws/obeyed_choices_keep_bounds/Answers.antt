-- The law, by its lemma.
use Rattle.fvn_combine_bounds.proofs.Sorted.{bounds_kept}
use Rattle.fvn_combine_bounds.proofs.laws.obeyed_choices_keep_bounds.Goals as goal

pub returns : goal.returns
returns c = bounds_kept c.taken_solutions_stand_for_summands.ensures c.narrow_classes_have_one_summand.ensures c.narrow_classes_take_no_identity.ensures c.other_classes_have_some_summand.ensures c.narrow_classes_have_no_tag.ensures
