-- The law is a lemma.
use Rattle.fvn_flat.proofs.PlainAnswers.{answers_to_flattened_pairs}
use Rattle.fvn_flat.proofs.laws.answers_to_flattened_pairs.Goals as goal

pub returns : goal.returns
returns c = answers_to_flattened_pairs
