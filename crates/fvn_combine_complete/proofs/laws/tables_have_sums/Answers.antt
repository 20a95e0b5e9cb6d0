-- The law, by its lemma.
use Rattle.fvn_combine_choices.proofs.Kinded.{tables_have_sums}
use Rattle.fvn_combine_complete.proofs.laws.tables_have_sums.Goals as goal

pub returns : goal.returns
returns c = tables_have_sums
