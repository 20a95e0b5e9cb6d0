-- The law, by its lemma.
use Rattle.fvn_combine_complete.proofs.Aliases.{laid_out_are}
use Rattle.fvn_combine_complete.proofs.laws.values_are_laid_out.Goals as goal

pub returns : goal.returns
returns c = laid_out_are
