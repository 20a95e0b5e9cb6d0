-- Where single summands are sought, nothing is said.
use Rattle.std.proofs.Common.{sym, ◌∙◌}
use Rattle.std.proofs.lemmas.Bool.{false≢true}
use Rattle.fvn_combine_questions.proofs.best.is_asked_of.Goals as goal

pub returns-then-single : goal.returns-then-single
returns-then-single c = λ full own. absurd (false≢true (sym full ∙ c.if-single.true))
