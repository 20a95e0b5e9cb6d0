-- The law is a lemma.
use Rattle.fvn_acunify_product.proofs.Ranks.{rank_bounded}
use Rattle.fvn_acunify_product.proofs.laws.rank_is_bounded.Goals as goal

pub returns : goal.returns
returns c = rank_bounded
