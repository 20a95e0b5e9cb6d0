-- The values so far pass.
use Rattle.std.proofs.Common.{take}
use Rattle.fvn_vunify.specs.inner.Tests.{ArePassed}
use Rattle.fvn_vunify.proofs.testing.test_values.Given as goal

abbrev pub invariant-loop-x : goal.invariant-loop-x
invariant-loop-x g l = ArePassed (g.E.Expander.setting l.expander) (take l.x-index l.vars) l.s
