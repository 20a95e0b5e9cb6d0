-- The rows with those so far.
use Rattle.std.proofs.Common.{◌≡◌}
use Rattle.fvn_refine.specs.inner.Rows.{with_rows}
use Rattle.fvn_refine.proofs.rows.with_each.Given as goal

abbrev pub invariant-loop-row : goal.invariant-loop-row
invariant-loop-row l = l.all.items ≡ with_rows l.sig l.initial.all.items l.yielded
