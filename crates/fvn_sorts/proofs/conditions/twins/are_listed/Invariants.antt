-- The invariant of the test of all results.
use Rattle.std.proofs.Common.{◌<◌}
use Rattle.fvn_terms.specs.declared.plain.SortId.{SortId}
use Rattle.fvn_sorts.specs.inner.Searches.{GivesListed}
use Rattle.fvn_sorts.proofs.conditions.twins.are_listed.Given as goal

-- those so far
abbrev pub invariant-loop-q : goal.invariant-loop-q
invariant-loop-q l = (t : SortId) → t.0 < l.q → GivesListed l.draft.declarations l.op l.draft.total t
