-- A binding text has one first fault at most.
use Rattle.fvn_problems.proofs.OneFault.{binding-faults}
use Rattle.fvn_problems.proofs.laws.binding_faults_are_determined.Goals as goal

pub returns : goal.returns
returns c = binding-faults
