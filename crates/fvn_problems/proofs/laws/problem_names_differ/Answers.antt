-- The names of a problem's variables differ.
use Rattle.fvn_problems.proofs.DistinctNames.{names-differ}
use Rattle.fvn_problems.proofs.laws.problem_names_differ.Goals as goal

pub returns : goal.returns
returns c = names-differ
