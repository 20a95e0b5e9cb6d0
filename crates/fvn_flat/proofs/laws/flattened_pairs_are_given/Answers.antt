-- The law is a lemma.
use Rattle.fvn_flat.proofs.PlainAnswers.{flattened_pairs_are_given}
use Rattle.fvn_flat.proofs.laws.flattened_pairs_are_given.Goals as goal

pub returns : goal.returns
returns c = flattened_pairs_are_given
