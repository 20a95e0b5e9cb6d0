-- The instances over the variables so far.
use Rattle.std.proofs.Common.{take}
use Rattle.fvn_theory.specs.Equations.{sides_of}
use Rattle.fvn_rewrite_rules.specs.inner.Making.{AreInstancesOver}
use Rattle.fvn_rewrite_rules.proofs.instances.instances.Given as goal

abbrev pub invariant-loop-x : goal.invariant-loop-x
invariant-loop-x l = AreInstancesOver l.sig l.number (sides_of l.e) (take l.x-index l.x-items) l.all.items
