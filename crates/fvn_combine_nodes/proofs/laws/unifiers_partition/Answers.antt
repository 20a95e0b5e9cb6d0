-- The law, by its lemma.
use Rattle.fvn_combine_nodes.proofs.Kernels.{unifier_partitions}
use Rattle.fvn_combine_nodes.proofs.laws.unifiers_partition.Goals as goal

pub returns : goal.returns
returns c = unifier_partitions
