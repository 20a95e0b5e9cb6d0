-- the rows that are left decide
use Rattle.std.proofs.Common.{◌≡◌, drop}
use Rattle.fvn_cover_counts.specs.inner.Bits.{with_variables}
use Rattle.fvn_cover_counts.proofs.bits.variables_word.Given as goal

abbrev pub invariant-loop-row : goal.invariant-loop-row
invariant-loop-row l = with_variables l.count l.rows 0 ≡ with_variables l.count (drop l.row-index l.rows) l.word
