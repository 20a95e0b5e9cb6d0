-- The lemma on sum operators.
use Rattle.fvn_combine_candidates.proofs.Few.{few_sums}
use Rattle.fvn_combine_candidates.proofs.laws.sum_operators_are_few.Goals as goal

pub returns : goal.returns
returns c = few_sums
