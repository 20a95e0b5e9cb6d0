-- Above the variables so far.
use Rattle.std.proofs.Common.{take}
use Rattle.fvn_axunify.specs.inner.Numbers.{IsAbove}
use Rattle.fvn_axunify.proofs.numbers.above.Given as goal

abbrev pub invariant-loop-y : goal.invariant-loop-y
invariant-loop-y l = IsAbove l.low (take l.y-index l.vars) l.next
