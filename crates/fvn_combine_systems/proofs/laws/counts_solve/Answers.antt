-- The law, by its lemma.
use Rattle.fvn_combine_systems.proofs.Counting.{counts_solve}
use Rattle.fvn_combine_systems.proofs.laws.counts_solve.Goals as goal

pub returns : goal.returns
returns c = counts_solve
