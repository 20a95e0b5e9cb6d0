-- Those so far join.
use Rattle.fvn_critical.specs.inner.Testing.{AreJoinedUpTo}
use Rattle.fvn_critical.proofs.testing.first_fault.Given as goal

abbrev pub invariant-loop-i : goal.invariant-loop-i
invariant-loop-i g l = AreJoinedUpTo l.tester.rewriter l.tester.chosen.now l.i
