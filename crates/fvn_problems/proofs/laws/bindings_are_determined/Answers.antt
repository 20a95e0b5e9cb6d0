-- A text binds one thing at most.
use Rattle.fvn_problems.proofs.DistinctNames.{bindings-determined}
use Rattle.fvn_problems.proofs.laws.bindings_are_determined.Goals as goal

pub returns : goal.returns
returns c = bindings-determined
