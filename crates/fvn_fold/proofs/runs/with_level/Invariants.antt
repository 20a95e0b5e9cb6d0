-- the variants of the next level so far
use Rattle.std.proofs.Common.{◌≡◌, ◌++◌}
use Rattle.fvn_fold.proofs.runs.with_level.Given as goal

abbrev pub invariant-loop-k : goal.invariant-loop-k
invariant-loop-k l = (l.last.items ≡ l.yielded) × (l.all.items ≡ l.fn.run.kept.items ++ l.yielded)
