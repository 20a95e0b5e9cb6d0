-- all so far are the first
use Rattle.std.proofs.Common.{◌≡◌, replicate, take}
use Rattle.fvn_match.proofs.summands.run.Given as goal

abbrev pub invariant-loop-i : goal.invariant-loop-i
invariant-loop-i l = take l.i l.ts ≡ replicate l.i l.first
