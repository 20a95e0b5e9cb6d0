-- Above all variables of the substitutions so far.
use Rattle.std.proofs.Common.{take}
use Rattle.fvn_axunify.specs.inner.Numbers.{IsAboveAll}
use Rattle.fvn_axunify.proofs.numbers.above_all.Given as goal

abbrev pub invariant-loop-s : goal.invariant-loop-s
invariant-loop-s l = IsAboveAll l.first (take l.s-index l.unifiers) l.next
