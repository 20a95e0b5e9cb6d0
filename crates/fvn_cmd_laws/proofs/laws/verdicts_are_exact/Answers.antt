-- The law, by its lemma.
use Rattle.fvn_cmd_laws.proofs.Verified.{verdicts_exact}
use Rattle.fvn_cmd_laws.proofs.laws.verdicts_are_exact.Goals as goal

pub returns : goal.returns
returns c = verdicts_exact c.verdicts_agree.ensures
