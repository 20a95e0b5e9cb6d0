-- The lemma on systems that are refused.
use Rattle.fvn_combine_candidates.proofs.Refused.{are_causes}
use Rattle.fvn_combine_candidates.proofs.laws.refusals_are_causes.Goals as goal

pub returns : goal.returns
returns c = are_causes c.node_partitions_are_partitions.ensures c.node_systems_are_sum_systems.ensures
