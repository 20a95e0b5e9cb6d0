-- The law, by its lemma and the law of minimal solutions.
use Rattle.fvn_combine_supports.proofs.Placing.{made_up}
use Rattle.fvn_combine_supports.proofs.laws.counts_are_made_up.Goals as goal

pub returns : goal.returns
returns c = made_up c.minimal_below.ensures
