-- The law, by its lemma.
use Rattle.fvn_tool.proofs.Questions.{questions_determined}
use Rattle.fvn_tool.proofs.laws.questions_are_determined.Goals as goal

pub returns : goal.returns
returns c = questions_determined c.readers_are_lawful.ensures c.refusals_are_lawful.ensures
