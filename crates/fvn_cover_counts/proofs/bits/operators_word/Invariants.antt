-- the rows that are left decide
use Rattle.std.proofs.Common.{◌≡◌, drop}
use Rattle.fvn_cover_counts.specs.inner.Bits.{with_operators}
use Rattle.fvn_cover_counts.proofs.bits.operators_word.Given as goal

abbrev pub invariant-loop-row : goal.invariant-loop-row
invariant-loop-row l = with_operators l.out l.rows 0 ≡ with_operators l.out (drop l.row-index l.rows) l.word
