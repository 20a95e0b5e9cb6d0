-- The variables of the arguments so far.
use Rattle.std.proofs.Common.{take}
use Rattle.fvn_flat.specs.Weight.{places}
use Rattle.fvn_flat.proofs.Occurrences.{OccursIn}
use Rattle.fvn_combine_triangular.specs.inner.Ordering.{HasListed}
use Rattle.fvn_combine_triangular.proofs.order.+add_vars.Given as goal

abbrev pub decreases-add_vars : goal.decreases-add_vars
decreases-add_vars l = places l.t.now

abbrev pub invariant-loop-u : goal.invariant-loop-u
invariant-loop-u l = HasListed l.initial.vars.items l.vars.items (λ y. OccursIn y (take l.u-index l.u-items))
