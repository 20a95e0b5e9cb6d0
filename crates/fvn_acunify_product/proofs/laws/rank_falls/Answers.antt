-- The law is a lemma.
use Rattle.fvn_acunify_product.proofs.Ranks.{rank_less}
use Rattle.fvn_acunify_product.proofs.laws.rank_falls.Goals as goal

pub returns : goal.returns
returns c = rank_less
