-- The operators so far have plain weights.
use Rattle.fvn_weights_reading.proofs.Weighed.{ArePlainSoFar}
use Rattle.fvn_weights_reading.proofs.reading.plain_weights.Given as goal

-- the operators so far have plain weights
abbrev pub invariant-loop-n : goal.invariant-loop-n
invariant-loop-n l = ArePlainSoFar l.signature l.list.items l.n
