-- Spelling is one to one on bindings.
use Rattle.fvn_problems.proofs.Spelled.{bindings-once}
use Rattle.fvn_problems.proofs.laws.bindings_are_spelled_once.Goals as goal

pub returns : goal.returns
returns c = bindings-once
