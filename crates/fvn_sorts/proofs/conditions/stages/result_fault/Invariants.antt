-- The invariant of the search for sorts without a result.
use Rattle.std.proofs.Common.{◌<◌, List}
use Rattle.fvn_terms.specs.declared.plain.OpId.{OpId}
use Rattle.fvn_terms.specs.declared.plain.SortId.{SortId}
use Rattle.fvn_sorts.specs.Faults.{HasNoResult}
use Rattle.fvn_sorts.proofs.conditions.stages.result_fault.Given as goal

-- no operator so far fails
abbrev pub invariant-loop-op : goal.invariant-loop-op
invariant-loop-op l = (g : OpId) → g.0 < l.op → (ss : List SortId) → HasNoResult l.collected g ss → ⊥
