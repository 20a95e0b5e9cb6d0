-- What the components so far sum to.
use Rattle.std.proofs.Common.{◌≡◌, ◌≤◌, sum, take}
use Rattle.fvn_lindio.proofs.paired.is_unit.Given as goal

abbrev pub invariant-loop-a : goal.invariant-loop-a
invariant-loop-a l = (sum (take l.a-index l.parts) ≡ l.total) × (l.total ≤ 1)
