-- What the module keeps of its equations.
use Rattle.fvn_tests_critical.proofs.tests.telling.push_answer.Goals as goal

pub push_answer_for-requires : goal.push_answer_for-requires
push_answer_for-requires c = rw (c.signature.ensures, c.equations.ensures) c.recall_readable.ensures.equations
