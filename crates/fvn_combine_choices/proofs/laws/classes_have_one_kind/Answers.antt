-- The law, by its lemma.
use Rattle.fvn_combine_choices.proofs.OneKind.{classes_have_one_kind}
use Rattle.fvn_combine_choices.proofs.laws.classes_have_one_kind.Goals as goal

pub returns : goal.returns
returns c = classes_have_one_kind c.unifiers_partition.ensures
