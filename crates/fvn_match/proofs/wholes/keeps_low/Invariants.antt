-- The ranks so far keep the sort.
use Rattle.fvn_terms.specs.Signature.{AtOrBelow}
use Rattle.fvn_match.specs.inner.Refusing.{TakesLow}
use Rattle.fvn_match.proofs.HighSums.{FirstRanks}
use Rattle.fvn_match.proofs.wholes.keeps_low.Given as goal

abbrev pub invariant-loop-i : goal.invariant-loop-i
invariant-loop-i l = FirstRanks l.sig l.f (λ r. AtOrBelow l.sig r.result l.s → TakesLow l.sig l.s r) l.i
