-- The nodes so far are checked.
use Rattle.std.proofs.Common.{ℕ, ◌<◌}
use Rattle.fvn_combine_loose.specs.inner.Checks.{IsBuilt}
use Rattle.fvn_combine_loose.proofs.checking.is_built.Given as goal

abbrev pub invariant-loop-i : goal.invariant-loop-i
invariant-loop-i l = (k : ℕ) → k < l.i → IsBuilt l.table l.state l.marks l.heights l.z k
