-- Where single summands are sought, columns are gone through forwards.
use Rattle.std.proofs.Common.{sym, ◌∙◌}
use Rattle.std.proofs.lemmas.Bool.{false≢true}
use Rattle.fvn_combine_questions.proofs.best.column_at.Goals as goal

pub returns-then-single-clause-backwards : goal.returns-then-single-clause-backwards
returns-then-single-clause-backwards c = λ full. absurd (false≢true (sym full ∙ c.if-single.true))
