-- The law, by its lemma.
use Rattle.fvn_combine_bounds.proofs.Counting.{taken_for_summands}
use Rattle.fvn_combine_bounds.proofs.laws.taken_solutions_stand_for_summands.Goals as goal

pub returns : goal.returns
returns c = taken_for_summands
