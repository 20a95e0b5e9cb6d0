-- one more of the level
use Rattle.fvn_fold.proofs.Copies.{depth_more}
use Rattle.fvn_fold.proofs.runs.with_depth.Goals as goal

pub loop-variant-preserved : goal.loop-variant-preserved
loop-variant-preserved c = rw c.in_ok-push.ensures.items (depth_more c.args.done.items c.loop-variant.all.items c.args.depth c.loop-variant.yielded c.in-Some.variant c.loop-variant.invariant)
