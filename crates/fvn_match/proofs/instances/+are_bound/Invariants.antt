-- What stands in an argument is bound, or stands in one that is left.
use Rattle.std.proofs.Common.{drop}
use Rattle.fvn_flat.specs.Weight.{places}
use Rattle.fvn_match.specs.inner.Goals.{bindings_of}
use Rattle.fvn_match.proofs.KnownForms.{AreBoundOr}
use Rattle.fvn_match.proofs.instances.+are_bound.Given as goal

abbrev pub decreases-are_bound : goal.decreases-are_bound
decreases-are_bound l = places l.t.now

abbrev pub invariant-loop-u : goal.invariant-loop-u
invariant-loop-u l = AreBoundOr (bindings_of l.bound) l.u-items (drop l.u-index l.u-items)
