-- the same list, ready to be compared
use Rattle.fvn_cover.proofs.pruning.prune.Goals as goal

pub prune_kept-requires-clause-flat : goal.prune_kept-requires-clause-flat
prune_kept-requires-clause-flat c = rw c.in_ok-all.ensures c.requires.flat

pub prune_kept-requires-clause-alike : goal.prune_kept-requires-clause-alike
prune_kept-requires-clause-alike c = rw c.in_ok-all.ensures c.requires.alike

pub returns : goal.returns
returns c = record { pruned = rw c.in_ok-all.ensures at c.in_ok-kept.ensures.pruned }
