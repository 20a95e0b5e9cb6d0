-- The law, by its lemma.
use Rattle.fvn_tool.proofs.Determined.{outcomes_determined}
use Rattle.fvn_tool.proofs.laws.outcomes_are_determined.Goals as goal

pub returns : goal.returns
returns c = outcomes_determined c.sorts_are_told_once.ensures c.verdicts_are_exact.ensures c.weighings_are_exact.ensures c.answers_are_exact.ensures c.questions_are_determined.ensures
