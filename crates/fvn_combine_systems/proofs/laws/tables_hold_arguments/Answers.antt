-- The law, by its lemma.
use Rattle.fvn_combine_systems.proofs.OfProblems.{holds_arguments}
use Rattle.fvn_combine_systems.proofs.laws.tables_hold_arguments.Goals as goal

pub returns : goal.returns
returns c = holds_arguments
