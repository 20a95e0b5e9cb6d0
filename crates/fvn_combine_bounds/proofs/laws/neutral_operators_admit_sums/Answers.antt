-- The law, by its lemma.
use Rattle.fvn_combine_bounds.proofs.Neutral.{neutral_admit}
use Rattle.fvn_combine_bounds.proofs.laws.neutral_operators_admit_sums.Goals as goal

pub returns : goal.returns
returns c = neutral_admit
