-- The invariant of the search for three sorts.
use Rattle.std.proofs.Common.{◌<◌}
use Rattle.fvn_sorts.specs.declared.conditions.brackets.Triple.{Triple}
use Rattle.fvn_sorts.specs.inner.Searches.{AreBad}
use Rattle.fvn_sorts.proofs.conditions.brackets.bad_triple.Given as goal

-- none so far is bad
abbrev pub invariant-loop-s : goal.invariant-loop-s
invariant-loop-s l = (t : Triple) → t.first.0 < l.s → AreBad l.draft.declarations l.op l.of t → ⊥
