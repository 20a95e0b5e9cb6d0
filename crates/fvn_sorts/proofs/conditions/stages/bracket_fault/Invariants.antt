-- The invariant of the search for bad brackets.
use Rattle.std.proofs.Common.{◌<◌}
use Rattle.fvn_terms.specs.declared.plain.OpId.{OpId}
use Rattle.fvn_sorts.specs.declared.conditions.brackets.Triple.{Triple}
use Rattle.fvn_sorts.specs.Faults.{HasBadBrackets}
use Rattle.fvn_sorts.proofs.conditions.stages.bracket_fault.Given as goal

-- no operator so far fails
abbrev pub invariant-loop-op : goal.invariant-loop-op
invariant-loop-op l = (g : OpId) → g.0 < l.op → (t : Triple) → HasBadBrackets l.collected g t.first t.second t.third → ⊥
