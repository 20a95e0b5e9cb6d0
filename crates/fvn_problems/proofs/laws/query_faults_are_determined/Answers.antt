-- A term text has one first fault at most.
use Rattle.fvn_problems.proofs.OneFault.{query-faults}
use Rattle.fvn_problems.proofs.laws.query_faults_are_determined.Goals as goal

pub returns : goal.returns
returns c = query-faults
