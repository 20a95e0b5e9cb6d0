-- the variables of the patterns so far
use Rattle.std.proofs.Common.{take}
use Rattle.fvn_flat.proofs.Occurrences.{OccursIn}
use Rattle.fvn_match.specs.inner.Variables.{Collects}
use Rattle.fvn_match.proofs.variables.with_all_variables.Given as goal

abbrev pub invariant-loop-p : goal.invariant-loop-p
invariant-loop-p l = Collects l.initial.all.items (λ y. OccursIn y (take l.p-index l.patterns)) l.all.items
