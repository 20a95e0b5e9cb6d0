-- The law, by its lemma.
use Rattle.fvn_combine_complete.proofs.Covering.{obeyed_choices_cover}
use Rattle.fvn_combine_complete.proofs.laws.obeyed_choices_cover.Goals as goal

pub returns : goal.returns
returns c = obeyed_choices_cover c.unifiers_partition.ensures c.unifiers_go_with.ensures c.tables_have_sums.ensures
