-- The invariant of the search for a third sort.
use Rattle.std.proofs.Common.{◌<◌}
use Rattle.fvn_terms.specs.declared.plain.SortId.{SortId}
use Rattle.fvn_sorts.specs.inner.Searches.{IsBadThird}
use Rattle.fvn_sorts.proofs.conditions.brackets.bad_third.Given as goal

-- none so far is bad
abbrev pub invariant-loop-r : goal.invariant-loop-r
invariant-loop-r l = (t : SortId) → t.0 < l.r → IsBadThird l.draft.declarations l.op l.of l.s l.q t → ⊥
