-- all rows so far allow it
use Rattle.std.proofs.Common.{take}
use Rattle.std.specs.Prelude.{All, IsTrue}
use Rattle.fvn_cover_counts.specs.inner.Comparing.{allows_variable}
use Rattle.fvn_cover_counts.proofs.comparing.variables_allow.Given as goal

abbrev pub invariant-loop-other : goal.invariant-loop-other
invariant-loop-other l = All (λ o. IsTrue (allows_variable l.rows o)) (take l.other-index l.others)
