-- The law, by its lemma.
use Rattle.fvn_combine_complete.proofs.Tagging.{unifiers_go_with}
use Rattle.fvn_combine_complete.proofs.laws.unifiers_go_with.Goals as goal

pub returns : goal.returns
returns c = unifiers_go_with c.unifiers_have_values.ensures c.unifiers_partition.ensures
