-- The pairs that are left decide.
use Rattle.std.proofs.Common.{◌≡◌, drop}
use Rattle.fvn_rewrite.specs.inner.Fitting.{sorted_bound}
use Rattle.fvn_rewrite.proofs.fitting.look.Given as goal

abbrev pub invariant-loop-y : goal.invariant-loop-y
invariant-loop-y l = sorted_bound l.bound l.x ≡ sorted_bound (drop l.y-index l.bound) l.x
