-- The pairs so far are a problem.
use Rattle.std.proofs.Common.{take}
use Rattle.fvn_flat.specs.Problems.{IsProblem, plain_pairs}
use Rattle.fvn_tests_samples.proofs.flats.are_sides.Given as goal

abbrev pub invariant-loop-left : goal.invariant-loop-left
invariant-loop-left l = IsProblem l.sig (plain_pairs (take l.left-index l.left-items))
