-- What is left decides.
use Rattle.std.proofs.Common.{◌≡◌, ◌≤◌, ◌-◌, drop, length}
use Rattle.fvn_rewrite.specs.inner.Twins.{has_twins}
use Rattle.fvn_rewrite.proofs.twins.has_twins.Given as goal

abbrev pub invariant-loop-i : goal.invariant-loop-i
invariant-loop-i l = record {
  within : l.i ≤ length l.ts;
  left : has_twins l.ts ≡ has_twins (drop l.i l.ts);
}

abbrev pub decreases-loop-i : goal.decreases-loop-i
decreases-loop-i l = length l.ts - l.i
