-- The invariant of the test of results.
use Rattle.std.proofs.Common.{◌<◌, [], ◌∷◌}
use Rattle.fvn_terms.specs.declared.plain.SortId.{SortId}
use Rattle.fvn_forms.specs.Ranks.{result}
use Rattle.fvn_sorts.proofs.conditions.twins.gives_listed.Given as goal

-- those so far
abbrev pub invariant-loop-r : goal.invariant-loop-r
invariant-loop-r l = (t : SortId) → t.0 < l.r → (result l.draft.declarations l.op (l.q ∷ t ∷ [])).0 < l.draft.total
