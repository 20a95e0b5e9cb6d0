-- The value of the coefficients so far, and how large it can be.
use Rattle.std.proofs.Common.{◌≤◌, ◌*◌, take}
use Rattle.fvn_lindio.specs.Systems.{above, below}
use Rattle.fvn_lindio.specs.inner.Search.{IsValue}
use Rattle.fvn_lindio.proofs.vector.value_at.Given as goal

abbrev pub invariant-loop-i : goal.invariant-loop-i
invariant-loop-i l = IsValue (take l.i l.row) l.x l.value × (above l.value ≤ l.i * 4294836225) × (below l.value ≤ l.i * 4294836225)
