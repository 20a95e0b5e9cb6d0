-- The invariant of the search for a second and a third sort.
use Rattle.std.proofs.Common.{◌<◌}
use Rattle.fvn_terms.specs.declared.plain.SortId.{SortId}
use Rattle.fvn_sorts.specs.inner.Searches.{AreBadAfter}
use Rattle.fvn_sorts.proofs.conditions.brackets.bad_pair.Given as goal

-- none so far is bad
abbrev pub invariant-loop-q : goal.invariant-loop-q
invariant-loop-q l = (p : SortId × SortId) → p.0.0 < l.q → AreBadAfter l.draft.declarations l.op l.of l.s p → ⊥
