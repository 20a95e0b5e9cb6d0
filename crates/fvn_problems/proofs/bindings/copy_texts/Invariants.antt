-- The texts so far are there.
use Rattle.std.proofs.Common.{◌≡◌, take}
use Rattle.fvn_problems.proofs.bindings.copy_texts.Given as goal

-- the texts so far
abbrev pub invariant-loop-i : goal.invariant-loop-i
invariant-loop-i l = l.copy ≡ take l.i l.texts
