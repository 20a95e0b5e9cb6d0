-- What stands in an argument stands in one that is left.
use Rattle.std.proofs.Common.{drop}
use Rattle.fvn_terms.specs.declared.plain.Var.{Var}
use Rattle.fvn_flat.specs.Weight.{places}
use Rattle.fvn_flat.proofs.Occurrences.{OccursIn}
use Rattle.fvn_match.proofs.variables.+is_closed.Given as goal

abbrev pub decreases-is_closed : goal.decreases-is_closed
decreases-is_closed l = places l.t.now

abbrev pub invariant-loop-u : goal.invariant-loop-u
invariant-loop-u l = (x : Var) → OccursIn x l.u-items → OccursIn x (drop l.u-index l.u-items)
