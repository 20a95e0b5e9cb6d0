-- The pairs so far have one value each.
use Rattle.fvn_combine_inferring.specs.Inferred.{AreEqualPairs}
use Rattle.fvn_combine_inferring.proofs.emptying.note_equal.Given as goal

abbrev pub invariant-loop-k : goal.invariant-loop-k
invariant-loop-k l = AreEqualPairs l.sig l.table l.state l.sorted l.equal.items
