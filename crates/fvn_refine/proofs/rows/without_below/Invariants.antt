-- The rows so far that are not below this one.
use Rattle.std.proofs.Common.{◌≡◌, not}
use Rattle.std.specs.List.{filter}
use Rattle.fvn_refine.specs.inner.Rows.{is_row_below}
use Rattle.fvn_refine.proofs.rows.without_below.Given as goal

abbrev pub invariant-loop-r : goal.invariant-loop-r
invariant-loop-r l = l.kept.items ≡ filter (λ r. not (is_row_below l.sig r l.row)) l.yielded
