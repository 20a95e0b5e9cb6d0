-- The law, by its lemma.
use Rattle.fvn_cmd_laws.proofs.Reaching.{limits_ample}
use Rattle.fvn_cmd_laws.proofs.laws.ample_limits_are_not_told.Goals as goal

pub returns : goal.returns
returns c = limits_ample
