-- A text asks one problem at most.
use Rattle.fvn_problems.proofs.ProblemTexts.{problem-only}
use Rattle.fvn_problems.proofs.laws.problems_are_determined.Goals as goal

pub returns : goal.returns
returns c = λ d names bytes p q h k. problem-only d names bytes q k p h
