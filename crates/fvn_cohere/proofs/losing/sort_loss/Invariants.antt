-- The equations so far are sort-decreasing.
use Rattle.std.proofs.Common.{take}
use Rattle.fvn_cohere.proofs.Firsts.{AreDecreasing}
use Rattle.fvn_cohere.proofs.losing.sort_loss.Given as goal

abbrev pub invariant-loop-i : goal.invariant-loop-i
invariant-loop-i l = AreDecreasing l.sig (take l.i l.equations)
