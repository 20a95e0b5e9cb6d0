-- The law, by its lemma.
use Rattle.fvn_combine_choices.proofs.Sizes.{sizes_add_up}
use Rattle.fvn_combine_choices.proofs.laws.sizes_add_up.Goals as goal

pub returns : goal.returns
returns c = sizes_add_up c.counts_solve.ensures c.combinations_solve.ensures
