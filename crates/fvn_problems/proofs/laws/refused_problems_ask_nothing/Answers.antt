-- A text with a fault asks nothing.
use Rattle.fvn_problems.proofs.ProblemTexts.{problem-none}
use Rattle.fvn_problems.proofs.laws.refused_problems_ask_nothing.Goals as goal

pub returns : goal.returns
returns c = problem-none
