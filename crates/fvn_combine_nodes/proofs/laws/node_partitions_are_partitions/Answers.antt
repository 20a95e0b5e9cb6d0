-- The law, by its lemma.
use Rattle.fvn_combine_nodes.proofs.Places.{partitions_of_nodes}
use Rattle.fvn_combine_nodes.proofs.laws.node_partitions_are_partitions.Goals as goal

pub returns : goal.returns
returns c = partitions_of_nodes
