-- Where nothing is open, all is past.
use Rattle.std.proofs.Common.{refl}
use Rattle.fvn_combine_questions.proofs.best.touched_question.Goals as goal

pub returns-in-None-best_of_operators : goal.returns-in-None-best_of_operators
returns-in-None-best_of_operators c = (rw c.in-None-best_of_operators.is at c.best_of_operators-in-None.ensures).1 refl
