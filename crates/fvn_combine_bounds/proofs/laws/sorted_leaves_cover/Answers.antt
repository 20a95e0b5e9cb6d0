-- The law, by its lemma.
use Rattle.fvn_combine_bounds.proofs.Covering.{sorted_cover}
use Rattle.fvn_combine_bounds.proofs.laws.sorted_leaves_cover.Goals as goal

pub returns : goal.returns
returns c = sorted_cover c.unifiers_go_with.ensures c.tables_have_sums.ensures c.values_obey_choices.ensures c.obeyed_choices_fall.ensures c.obeyed_choices_cover.ensures c.obeyed_choices_keep_bounds.ensures
