-- The law, by its lemma.
use Rattle.fvn_cmd_laws.proofs.Weighed.{weighings_exact}
use Rattle.fvn_cmd_laws.proofs.laws.weighings_are_exact.Goals as goal

pub returns : goal.returns
returns c = weighings_exact
