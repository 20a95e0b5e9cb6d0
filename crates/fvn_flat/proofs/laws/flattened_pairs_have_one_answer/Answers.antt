-- The law is a lemma.
use Rattle.fvn_flat.proofs.OneAnswer.{flattened_pairs_have_one_answer}
use Rattle.fvn_flat.proofs.laws.flattened_pairs_have_one_answer.Goals as goal

pub returns : goal.returns
returns c = flattened_pairs_have_one_answer
