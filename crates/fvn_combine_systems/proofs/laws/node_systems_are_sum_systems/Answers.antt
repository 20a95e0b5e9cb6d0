-- The law, by its lemma.
use Rattle.fvn_combine_systems.proofs.OfProblems.{system_of_problem}
use Rattle.fvn_combine_systems.proofs.laws.node_systems_are_sum_systems.Goals as goal

pub returns : goal.returns
returns c = system_of_problem
