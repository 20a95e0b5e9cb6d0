-- What is kept is said of the state, and what is noted holds.
use Rattle.fvn_combine_inferring.specs.Inferred.{IsInferred}
use Rattle.fvn_combine_inferring.specs.inner.Holding.{ArePairs}
use Rattle.fvn_combine_inferring.proofs.inferring.infer_each.Given as goal

abbrev pub invariant-loop-sums : goal.invariant-loop-sums
invariant-loop-sums l = record {
  told : IsInferred l.sig l.table l.state l.known.sorted l.asked;
  pairs : ArePairs l.sig l.table l.state l.known.sorted l.pairs;
}
