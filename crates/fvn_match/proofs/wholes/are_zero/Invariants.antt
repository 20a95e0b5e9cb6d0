-- the numbers so far are zero
use Rattle.std.proofs.Common.{◌≡◌, take}
use Rattle.std.specs.Prelude.{sum}
use Rattle.fvn_match.proofs.wholes.are_zero.Given as goal

abbrev pub invariant-loop-n : goal.invariant-loop-n
invariant-loop-n l = sum (take l.n-index l.ns) ≡ 0
