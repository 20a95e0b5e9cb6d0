-- The left sides so far are harmless.
use Rattle.std.proofs.Common.{take}
use Rattle.fvn_cohere.proofs.Harmless.{HarmlessSoFar}
use Rattle.fvn_cohere.proofs.faults.first_left_fault.Given as goal

abbrev pub invariant-loop-i : goal.invariant-loop-i
invariant-loop-i l = HarmlessSoFar l.sig (take l.i l.equations)
