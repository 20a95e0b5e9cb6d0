-- The law, by its lemma and the law of minimal solutions.
use Rattle.fvn_combine_supports.proofs.Summing.{minimal_has_column}
use Rattle.fvn_combine_supports.proofs.laws.minimal_has_column.Goals as goal

pub returns : goal.returns
returns c = minimal_has_column c.minimal_below.ensures
