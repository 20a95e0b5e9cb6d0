-- None of the ranks so far gives it.
use Rattle.std.proofs.Common.{take}
use Rattle.std.specs.Prelude.{All}
use Rattle.fvn_terms.specs.declared.declarations.Rank.{Rank}
use Rattle.fvn_terms.specs.Signature.{AtOrBelow}
use Rattle.fvn_sort_bounds.proofs.admitting.some_gives.Given as goal

abbrev pub invariant-loop-rank : goal.invariant-loop-rank
invariant-loop-rank l = All (λ (r : Rank). AtOrBelow l.sig r.result l.s → ⊥) (take l.rank-index l.ranks)
