-- The invariant of the search for an operator that fails.
use Rattle.std.proofs.Common.{◌<◌}
use Rattle.fvn_terms.specs.declared.plain.OpId.{OpId}
use Rattle.fvn_sorts.specs.Faults.{HasFault}
use Rattle.fvn_sorts.specs.inner.Searches.{fault_at}
use Rattle.fvn_sorts.proofs.conditions.shapes.first_failing.Given as goal

-- no operator so far fails
abbrev pub invariant-loop-op : goal.invariant-loop-op
invariant-loop-op l = (g : OpId) → g.0 < l.op → HasFault l.collected (fault_at l.condition g) → ⊥
