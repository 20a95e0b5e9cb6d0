-- The invariant of the search for the rank of a constant.
use Rattle.std.proofs.Common.{◌≡◌, ℕ, ◌<◌, [], get_or}
use Rattle.fvn_terms.specs.declared.declarations.Rank.{Rank}
use Rattle.fvn_terms.specs.Signature.{kind}
use Rattle.fvn_sorts.proofs.conditions.shapes.is_constant_of.Given as goal

-- none so far is one of a constant of the kind
abbrev pub invariant-loop-rank : goal.invariant-loop-rank
invariant-loop-rank l = (k : ℕ) (d : Rank) → k < l.rank-index → (get_or l.rank-items k d).args ≡ [] → kind l.declarations (get_or l.rank-items k d).result ≡ l.kind → ⊥
