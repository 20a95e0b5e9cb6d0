-- The rows so far stand before it.
use Rattle.std.proofs.Common.{◌≡◌, ◌+◌, drop}
use Rattle.fvn_refine.specs.inner.Ordering.{place}
use Rattle.fvn_refine.proofs.ordering.place.Given as goal

abbrev pub invariant-loop-i : goal.invariant-loop-i
invariant-loop-i l = place l.rows l.row ≡ l.i + place (drop l.i l.rows) l.row
