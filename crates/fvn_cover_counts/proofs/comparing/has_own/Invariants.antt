-- none so far is such a row
use Rattle.std.proofs.Common.{take}
use Rattle.std.specs.Prelude.{All}
use Rattle.fvn_cover_counts.specs.inner.Comparing.{IsOwn}
use Rattle.fvn_cover_counts.proofs.comparing.has_own.Given as goal

abbrev pub invariant-loop-other : goal.invariant-loop-other
invariant-loop-other l = All (λ o. IsOwn l.row o → ⊥) (take l.other-index l.others)
