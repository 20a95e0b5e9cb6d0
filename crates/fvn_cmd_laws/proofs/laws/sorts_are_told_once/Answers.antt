-- The law, by its lemma.
use Rattle.fvn_cmd_laws.proofs.Checks.{told_once}
use Rattle.fvn_cmd_laws.proofs.laws.sorts_are_told_once.Goals as goal

pub returns : goal.returns
returns c = told_once c.readers_are_lawful.ensures.losses
