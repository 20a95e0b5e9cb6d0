-- the numbers so far
use Rattle.std.proofs.Common.{◌≡◌, take}
use Rattle.fvn_match.proofs.known.copied.Given as goal

abbrev pub invariant-loop-n : goal.invariant-loop-n
invariant-loop-n l = l.all.items ≡ take l.n-index l.ns
