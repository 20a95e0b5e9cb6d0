-- the rows that are left decide
use Rattle.std.proofs.Common.{◌≡◌, drop}
use Rattle.fvn_cover_counts.specs.inner.Comparing.{is_above_some}
use Rattle.fvn_cover_counts.proofs.comparing.is_above_some.Given as goal

abbrev pub invariant-loop-row : goal.invariant-loop-row
invariant-loop-row l = is_above_some l.other l.rows ≡ is_above_some l.other (drop l.row-index l.rows)
