-- The law, by its lemma.
use Rattle.fvn_combine_systems.proofs.Sizes.{tables_small}
use Rattle.fvn_combine_systems.proofs.laws.tables_are_small.Goals as goal

pub returns : goal.returns
returns c = tables_small
