-- The law, by its lemma.
use Rattle.fvn_combine_supports.proofs.Picking.{by_taken}
use Rattle.fvn_combine_supports.proofs.laws.made_up_by_taken.Goals as goal

pub returns : goal.returns
returns c = by_taken
