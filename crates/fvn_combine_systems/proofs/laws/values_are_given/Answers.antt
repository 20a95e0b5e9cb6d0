-- The law, by its lemma.
use Rattle.fvn_combine_systems.proofs.Substituted.{values_given}
use Rattle.fvn_combine_systems.proofs.laws.values_are_given.Goals as goal

pub returns : goal.returns
returns c = values_given
