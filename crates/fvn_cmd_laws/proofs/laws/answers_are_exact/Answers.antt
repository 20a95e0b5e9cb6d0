-- The law, by its lemma.
use Rattle.fvn_cmd_laws.proofs.Unified.{answers_exact}
use Rattle.fvn_cmd_laws.proofs.laws.answers_are_exact.Goals as goal

pub returns : goal.returns
returns c = answers_exact
