-- The coefficients so far are allowed.
use Rattle.std.proofs.Common.{◌≤◌, take}
use Rattle.std.specs.Prelude.{unsigned_abs}
use Rattle.std.specs.List.{All}
use Rattle.fvn_tests_choices.proofs.tests.systems.are_small.Given as goal

abbrev pub invariant-loop-c : goal.invariant-loop-c
invariant-loop-c l = All (λ c. unsigned_abs c ≤ 65535) (take l.c-index l.coefficients)
