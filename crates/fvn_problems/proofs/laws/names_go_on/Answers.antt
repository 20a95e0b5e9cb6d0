-- Names go on.
use Rattle.fvn_problems.proofs.Named.{names-go-on}
use Rattle.fvn_problems.proofs.laws.names_go_on.Goals as goal

pub returns : goal.returns
returns c = names-go-on
