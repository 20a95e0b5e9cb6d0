-- The sum of the solutions so far.
use Rattle.std.proofs.Common.{◌≡◌, ◌-◌, ◌^◌, take}
use Rattle.std.specs.Prelude.{min}
use Rattle.fvn_lindio.specs.Systems.{vectors_of}
use Rattle.fvn_acunify.specs.ValidChoice.{column_sum}
use Rattle.fvn_combine_admissible.proofs.aliases.total.Given as goal

abbrev pub invariant-loop-solution : goal.invariant-loop-solution
invariant-loop-solution l = l.sum ≡ min (column_sum l.j (vectors_of (take l.solution-index l.solutions))) (2 ^ 64 - 1)
