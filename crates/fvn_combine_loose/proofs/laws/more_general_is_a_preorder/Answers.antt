-- The law, by its lemma.
use Rattle.fvn_combine_loose.proofs.Preorder.{preorder}
use Rattle.fvn_combine_loose.proofs.laws.more_general_is_a_preorder.Goals as goal

pub returns : goal.returns
returns c = preorder
