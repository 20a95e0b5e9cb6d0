-- The law, by its lemma.
use Rattle.fvn_tool.proofs.Questions.{refusals_right}
use Rattle.fvn_tool.proofs.laws.refusals_are_right.Goals as goal

pub returns : goal.returns
returns c = refusals_right c.refusals_are_lawful.ensures
