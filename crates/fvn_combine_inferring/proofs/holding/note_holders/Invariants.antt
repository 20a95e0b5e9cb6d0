-- What is noted holds.
use Rattle.fvn_combine_inferring.specs.inner.Holding.{ArePairs}
use Rattle.fvn_combine_inferring.proofs.holding.note_holders.Given as goal

abbrev pub invariant-loop-k : goal.invariant-loop-k
invariant-loop-k l = ArePairs l.sig l.table l.state l.known.sorted l.pairs
