-- The law, by its lemma.
use Rattle.fvn_combine_complete.proofs.Covering.{leaves_cover}
use Rattle.fvn_combine_complete.proofs.laws.leaves_cover.Goals as goal

pub returns : goal.returns
returns c = leaves_cover c.unifiers_go_with.ensures c.tables_have_sums.ensures c.values_obey_choices.ensures c.obeyed_choices_fall.ensures c.obeyed_choices_cover.ensures
