-- The ranks so far give none.
use Rattle.fvn_terms.specs.Signature.{AtOrBelow}
use Rattle.fvn_match.proofs.HighSums.{FirstRanks}
use Rattle.fvn_match.proofs.wholes.gives_none.Given as goal

abbrev pub invariant-loop-i : goal.invariant-loop-i
invariant-loop-i l = FirstRanks l.sig l.f (λ r. AtOrBelow l.sig r.result l.s → ⊥) l.i
