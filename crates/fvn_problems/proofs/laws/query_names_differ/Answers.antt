-- The names of a term's variables differ.
use Rattle.fvn_problems.proofs.DistinctNames.{query-names-differ}
use Rattle.fvn_problems.proofs.laws.query_names_differ.Goals as goal

pub returns : goal.returns
returns c = query-names-differ
