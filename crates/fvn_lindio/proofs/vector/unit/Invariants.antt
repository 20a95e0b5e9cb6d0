-- The components so far.
use Rattle.std.proofs.Common.{◌≡◌, take, set, replicate}
use Rattle.fvn_lindio.proofs.vector.unit.Given as goal

abbrev pub invariant-loop-i : goal.invariant-loop-i
invariant-loop-i l = l.vector.items ≡ take l.i (set (replicate l.columns 0) l.place 1)
