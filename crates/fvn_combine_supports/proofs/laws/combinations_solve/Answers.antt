-- The law, by its lemma.
use Rattle.fvn_combine_supports.proofs.Combining.{combination_solves}
use Rattle.fvn_combine_supports.proofs.laws.combinations_solve.Goals as goal

pub returns : goal.returns
returns c = combination_solves
