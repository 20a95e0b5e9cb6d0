-- The sum of the components so far.
use Rattle.std.proofs.Common.{◌≡◌, take}
use Rattle.fvn_lindio.specs.Vectors.{add}
use Rattle.fvn_lindio.proofs.vector.sum_of.Given as goal

abbrev pub invariant-loop-i : goal.invariant-loop-i
invariant-loop-i l = l.sum.items ≡ add (take l.i l.x) (take l.i l.y)
