-- The law is a lemma.
use Rattle.fvn_flat.proofs.OneAnswer.{equal_pairs_have_one_answer}
use Rattle.fvn_flat.proofs.laws.equal_pairs_have_one_answer.Goals as goal

pub returns : goal.returns
returns c = equal_pairs_have_one_answer
