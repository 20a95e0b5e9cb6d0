-- Those so far join.
use Rattle.std.proofs.Common.{take}
use Rattle.fvn_critical.specs.inner.Testing.{Each, IsJoinedAt}
use Rattle.fvn_critical.proofs.testing.fault_along.Given as goal

abbrev pub invariant-loop-path : goal.invariant-loop-path
invariant-loop-path g l = Each (IsJoinedAt l.tester.rewriter l.tester.chosen.now l.later l.new.rule) (take l.path-index l.list)
