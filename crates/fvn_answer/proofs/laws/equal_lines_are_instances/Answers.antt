-- The law.
use Rattle.fvn_answer.proofs.Turning.{equal-instances}
use Rattle.fvn_answer.proofs.laws.equal_lines_are_instances.Goals as goal

pub returns : goal.returns
returns c = equal-instances c.bindings_are_spelled_once.ensures
