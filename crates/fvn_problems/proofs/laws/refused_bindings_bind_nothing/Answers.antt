-- A text with a fault binds nothing.
use Rattle.fvn_problems.proofs.DistinctNames.{refused-bind-nothing}
use Rattle.fvn_problems.proofs.laws.refused_bindings_bind_nothing.Goals as goal

pub returns : goal.returns
returns c = refused-bind-nothing
