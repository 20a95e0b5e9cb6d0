-- Those so far join.
use Rattle.std.proofs.Common.{take}
use Rattle.fvn_critical.specs.inner.Testing.{Each, JoinWith}
use Rattle.fvn_critical.proofs.testing.fault_by.Given as goal

abbrev pub invariant-loop-inner : goal.invariant-loop-inner
invariant-loop-inner g l = Each (JoinWith l.tester.rewriter l.new.rule l.part.path.now) (take l.inner-index l.rules)
