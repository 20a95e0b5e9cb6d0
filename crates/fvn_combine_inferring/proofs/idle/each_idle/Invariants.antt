-- What is kept is said of the state, and what is noted holds.
use Rattle.fvn_combine_inferring.specs.Inferred.{IsInferred, AreEqualPairs}
use Rattle.fvn_combine_inferring.proofs.idle.each_idle.Given as goal

abbrev pub invariant-loop-i : goal.invariant-loop-i
invariant-loop-i l = record {
  told : IsInferred l.sig l.table l.state l.sorted l.said;
  equal : AreEqualPairs l.sig l.table l.state l.sorted l.equal.items;
}
