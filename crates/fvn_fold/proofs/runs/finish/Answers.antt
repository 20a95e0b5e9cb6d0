-- what is pruned are all kept variants
use Rattle.std.proofs.Common.{◌∙◌}
use Rattle.fvn_fold.proofs.runs.finish.Goals as goal

pub returns-clause-kept : goal.returns-clause-kept
returns-clause-kept c = c.from_vec.ensures ∙ c.in_ok-all.ensures

pub returns-clause-pruned : goal.returns-clause-pruned
returns-clause-pruned c = rw c.from_vec-2.ensures c.in_ok-given.ensures.pruned
