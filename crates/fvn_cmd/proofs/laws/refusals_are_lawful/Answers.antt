-- Refusals are lawful, since the readers are.
use Rattle.fvn_cmd.proofs.Refusals.{refusals_lawful}
use Rattle.fvn_cmd.proofs.laws.refusals_are_lawful.Goals as goal

pub returns : goal.returns
returns c = refusals_lawful c.readers_are_lawful.ensures
