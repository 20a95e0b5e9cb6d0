-- The law, by its lemma.
use Rattle.fvn_combine_supports.proofs.Choosing.{chooses}
use Rattle.fvn_combine_supports.proofs.laws.pieces_choose.Goals as goal

pub returns : goal.returns
returns c = chooses
