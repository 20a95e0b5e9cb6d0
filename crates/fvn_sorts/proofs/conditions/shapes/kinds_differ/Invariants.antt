-- The invariant of the search for a rank of other kinds.
use Rattle.std.proofs.Common.{ℕ, ◌<◌, get_or}
use Rattle.fvn_terms.specs.declared.declarations.Rank.{Rank}
use Rattle.fvn_forms.specs.FitsKinds.{HaveOneKind}
use Rattle.fvn_sorts.proofs.conditions.shapes.kinds_differ.Given as goal

-- the ranks so far have the kinds of the first
abbrev pub invariant-loop-rank : goal.invariant-loop-rank
invariant-loop-rank l = (k : ℕ) (d : Rank) → k < l.rank-index → HaveOneKind l.declarations (get_or l.ranks 0 d) (get_or l.ranks k d)
