-- the variables of the arguments so far
use Rattle.std.proofs.Common.{take}
use Rattle.fvn_flat.specs.Weight.{places}
use Rattle.fvn_flat.proofs.Occurrences.{OccursIn}
use Rattle.fvn_match.specs.inner.Variables.{Collects}
use Rattle.fvn_match.proofs.variables.+with_variables.Given as goal

abbrev pub decreases-with_variables : goal.decreases-with_variables
decreases-with_variables l = places l.t.now

abbrev pub invariant-loop-u : goal.invariant-loop-u
invariant-loop-u l = Collects l.initial.all.items (λ y. OccursIn y (take l.u-index l.u-items)) l.all.items
