-- The invariant of the search for a rank of another kind.
use Rattle.std.proofs.Common.{ℕ, ◌<◌, get_or}
use Rattle.fvn_terms.specs.declared.declarations.Rank.{Rank}
use Rattle.fvn_terms.specs.Signature.{kind, HasKind}
use Rattle.fvn_terms.specs.Equality.{constant}
use Rattle.fvn_sorts.proofs.conditions.shapes.has_other_kind.Given as goal

-- each rank so far gives the kind of the constant
abbrev pub invariant-loop-rank : goal.invariant-loop-rank
invariant-loop-rank l = (k : ℕ) (d : Rank) → k < l.rank-index → HasKind l.declarations (constant l.constant) (kind l.declarations (get_or l.ranks k d).result)
