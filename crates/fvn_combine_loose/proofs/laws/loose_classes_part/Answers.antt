-- The law, by its lemma.
use Rattle.fvn_combine_loose.proofs.PartedPairs.{loose_classes}
use Rattle.fvn_combine_loose.proofs.laws.loose_classes_part.Goals as goal

pub returns : goal.returns
returns c = loose_classes c.sorted_unifiers_go_with.ensures
