-- A problem has one first fault at most.
use Rattle.fvn_problems.proofs.OneFault.{problem-faults}
use Rattle.fvn_problems.proofs.laws.problem_faults_are_determined.Goals as goal

pub returns : goal.returns
returns c = problem-faults
