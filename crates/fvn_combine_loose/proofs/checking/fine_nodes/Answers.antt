-- By the heads that were given.
use Rattle.fvn_combine_loose.proofs.checking.fine_nodes.Goals as goal

pub returns : goal.returns
returns c = record { heads = c.args.heads.now; each = c.loop-i.invariant.1 }
