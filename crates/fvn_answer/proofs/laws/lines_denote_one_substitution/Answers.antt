-- The law.
use Rattle.fvn_answer.proofs.OneReading.{one-substitution}
use Rattle.fvn_answer.proofs.laws.lines_denote_one_substitution.Goals as goal

pub returns : goal.returns
returns c = one-substitution c.bindings_are_spelled_once.ensures
