-- The rows so far are allowed.
use Rattle.fvn_lindio.specs.Systems.{coefficients_of}
use Rattle.std.proofs.Common.{◌≡◌, ◌≤◌, length, take}
use Rattle.std.specs.Prelude.{unsigned_abs}
use Rattle.std.specs.List.{All}
use Rattle.fvn_tests_choices.proofs.tests.systems.are_rows.Given as goal

abbrev pub invariant-loop-row : goal.invariant-loop-row
invariant-loop-row l =
    All (λ r. length r ≡ l.columns) (coefficients_of (take l.row-index l.rows))
    × All (All (λ c. unsigned_abs c ≤ 65535)) (coefficients_of (take l.row-index l.rows))
