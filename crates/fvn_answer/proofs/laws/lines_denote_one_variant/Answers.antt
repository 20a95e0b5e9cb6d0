-- The law.
use Rattle.fvn_answer.proofs.OneReading.{one-variant}
use Rattle.fvn_answer.proofs.laws.lines_denote_one_variant.Goals as goal

pub returns : goal.returns
returns c = one-variant c.bindings_are_spelled_once.ensures
