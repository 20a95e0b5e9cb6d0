-- The invariant of the search for a sort that does not collapse.
use Rattle.std.proofs.Common.{◌<◌}
use Rattle.fvn_terms.specs.declared.plain.SortId.{SortId}
use Rattle.fvn_sorts.specs.inner.Searches.{DoesNotCollapse}
use Rattle.fvn_sorts.proofs.conditions.brackets.first_not_collapsing.Given as goal

-- none so far fails to collapse
abbrev pub invariant-loop-s : goal.invariant-loop-s
invariant-loop-s l = (t : SortId) → t.0 < l.s → DoesNotCollapse l.draft.declarations l.op l.identity l.of t → ⊥
