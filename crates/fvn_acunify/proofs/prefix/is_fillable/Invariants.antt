-- The solutions so far give nothing to the column.
use Rattle.std.proofs.Common.{◌≡◌, take}
use Rattle.fvn_acunify.specs.inner.Prefix.{useful_sum}
use Rattle.fvn_acunify.proofs.prefix.is_fillable.Given as goal

abbrev pub invariant-loop-solution : goal.invariant-loop-solution
invariant-loop-solution l = useful_sum l.constants l.j (take l.solution-index l.lower) ≡ 0
