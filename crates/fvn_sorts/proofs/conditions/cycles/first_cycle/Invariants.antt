-- The invariant of the search for a sort on a cycle.
use Rattle.std.proofs.Common.{◌<◌}
use Rattle.fvn_terms.specs.declared.plain.SortId.{SortId}
use Rattle.fvn_sorts.specs.Faults.{IsOnCycle}
use Rattle.fvn_sorts.proofs.conditions.cycles.first_cycle.Given as goal

-- no sort so far is on a cycle
abbrev pub invariant-loop-s : goal.invariant-loop-s
invariant-loop-s l = (q : SortId) → q.0 < l.s → IsOnCycle l.collected q → ⊥
