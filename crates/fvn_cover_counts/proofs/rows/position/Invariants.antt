-- the rows that are left decide
use Rattle.std.proofs.Common.{◌≡◌, ◌+◌, drop}
use Rattle.fvn_cover_counts.specs.inner.Rows.{position}
use Rattle.fvn_cover_counts.proofs.rows.position.Given as goal

abbrev pub invariant-loop-i : goal.invariant-loop-i
invariant-loop-i l = position l.s l.rows ≡ l.i + position l.s (drop l.i l.rows)
