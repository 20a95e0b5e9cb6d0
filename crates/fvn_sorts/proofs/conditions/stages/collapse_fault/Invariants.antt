-- The invariant of the search for a bad collapse.
use Rattle.std.proofs.Common.{◌<◌}
use Rattle.fvn_terms.specs.declared.plain.OpId.{OpId}
use Rattle.fvn_terms.specs.declared.plain.SortId.{SortId}
use Rattle.fvn_sorts.specs.Faults.{HasBadCollapse}
use Rattle.fvn_sorts.proofs.conditions.stages.collapse_fault.Given as goal

-- no operator so far fails
abbrev pub invariant-loop-op : goal.invariant-loop-op
invariant-loop-op l = (g : OpId) → g.0 < l.op → (s : SortId) → HasBadCollapse l.collected g s → ⊥
