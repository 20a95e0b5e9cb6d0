-- The law, by its lemma, the law of counts, and that of minimal solutions that have a column.
use Rattle.fvn_combine_complete.proofs.Filling.{unfilled_none}
use Rattle.fvn_combine_complete.proofs.laws.unfilled_has_no_values.Goals as goal

pub returns : goal.returns
returns c = unfilled_none c.counts_solve.ensures c.minimal_has_column.ensures
