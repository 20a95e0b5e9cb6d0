-- Spelling is one to one on problems.
use Rattle.fvn_problems.proofs.Spelled.{problems-once}
use Rattle.fvn_problems.proofs.laws.problems_are_spelled_once.Goals as goal

pub returns : goal.returns
returns c = problems-once
