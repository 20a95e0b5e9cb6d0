-- The forms are the same so far.
use Rattle.std.proofs.Common.{◌≡◌, take}
use Rattle.fvn_narrow.proofs.serving.are_same.Given as goal

abbrev pub invariant-loop-i : goal.invariant-loop-i
invariant-loop-i l = take l.i l.ts ≡ take l.i l.us
