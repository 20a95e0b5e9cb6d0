-- the members so far
use Rattle.std.proofs.Common.{◌≡◌, ◌++◌, map}
use Rattle.fvn_fold.specs.inner.Running.{at_depth}
use Rattle.fvn_fold.proofs.runs.with_depth.Given as goal

abbrev pub invariant-loop-variant : goal.invariant-loop-variant
invariant-loop-variant l = l.all.items ≡ l.fn.done.items ++ map (at_depth l.depth) l.yielded
