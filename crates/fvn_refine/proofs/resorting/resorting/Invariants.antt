-- The places that are left decide.
use Rattle.std.proofs.Common.{◌≡◌}
use Rattle.fvn_refine.specs.inner.Resorting.{resorting, with_all_resorted}
use Rattle.fvn_refine.proofs.resorting.resorting.Given as goal

abbrev pub invariant-loop-y : goal.invariant-loop-y
invariant-loop-y l = resorting l.vars l.row ≡ with_all_resorted l.all l.y-iterator.a.rest.now l.y-iterator.b.rest.now
