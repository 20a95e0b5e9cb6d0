-- all rows so far allow it
use Rattle.std.proofs.Common.{take}
use Rattle.std.specs.Prelude.{All}
use Rattle.fvn_cover_counts.specs.inner.Comparing.{AllowsOperator}
use Rattle.fvn_cover_counts.proofs.comparing.operators_allow.Given as goal

abbrev pub invariant-loop-row : goal.invariant-loop-row
invariant-loop-row l = All (AllowsOperator l.sig l.others) (take l.row-index l.rows)
