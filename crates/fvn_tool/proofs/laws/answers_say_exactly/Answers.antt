-- The law, by its lemma.
use Rattle.fvn_tool.proofs.Determined.{say_exactly}
use Rattle.fvn_tool.proofs.laws.answers_say_exactly.Goals as goal

pub returns : goal.returns
returns c = say_exactly c.sorts_are_told_once.ensures c.verdicts_are_exact.ensures c.weighings_are_exact.ensures c.answers_are_exact.ensures c.explored_answers_are_exact.ensures
