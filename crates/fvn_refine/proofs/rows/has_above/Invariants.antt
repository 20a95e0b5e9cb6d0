-- The rows that are left decide.
use Rattle.std.proofs.Common.{◌≡◌, drop}
use Rattle.std.specs.List.{list_any}
use Rattle.fvn_refine.specs.inner.Rows.{is_row_below}
use Rattle.fvn_refine.proofs.rows.has_above.Given as goal

abbrev pub invariant-loop-r : goal.invariant-loop-r
invariant-loop-r l = list_any (is_row_below l.sig l.row) l.rows ≡ list_any (is_row_below l.sig l.row) (drop l.r-index l.rows)
