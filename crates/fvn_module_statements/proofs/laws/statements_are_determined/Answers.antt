-- The lemma is the law.
use Rattle.fvn_module_statements.proofs.LeftOutExact.{determined}
use Rattle.fvn_module_statements.proofs.laws.statements_are_determined.Goals as goal

pub returns : goal.returns
returns c = determined
