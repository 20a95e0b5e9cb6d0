-- Some of the rows are a system.
use Rattle.fvn_combine_candidates.proofs.Turned.{left_fits}
use Rattle.fvn_combine_candidates.proofs.last_first.are_few_left.Goals as goal

pub basis-requires : goal.basis-requires
basis-requires c =
    left_fits c.args.system.now c.in_ok-rest.rest c.in_ok-rest.ensures.columns c.in_ok-rest.ensures.rows c.requires
