-- As much was taken out of both lists.
use Rattle.std.proofs.Common.{take}
use Rattle.fvn_combine_inferring.specs.inner.Lists.{IsCancelled}
use Rattle.fvn_combine_inferring.proofs.cancelling.cancel.Given as goal

abbrev pub invariant-loop-x : goal.invariant-loop-x
invariant-loop-x l = IsCancelled l.fn.left.items (take l.x-index l.right) l.left.items l.rest.items
