-- The law, by its lemma.
use Rattle.fvn_combine_bounds.proofs.Sorted.{narrow_take_none}
use Rattle.fvn_combine_bounds.proofs.laws.narrow_classes_take_no_identity.Goals as goal

pub returns : goal.returns
returns c = narrow_take_none c.unifiers_partition.ensures c.classes_have_one_kind.ensures
