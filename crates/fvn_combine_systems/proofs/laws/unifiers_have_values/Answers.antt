-- The law, by its lemma and the law of partitions.
use Rattle.fvn_combine_systems.proofs.Substituted.{unifiers_have_values}
use Rattle.fvn_combine_systems.proofs.laws.unifiers_have_values.Goals as goal

pub returns : goal.returns
returns c = unifiers_have_values c.unifiers_partition.ensures
