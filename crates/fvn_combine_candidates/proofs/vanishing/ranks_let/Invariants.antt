-- The ranks so far do so.
use Rattle.std.proofs.Common.{◌≡◌, ℕ, ◌<◌, Some}
use Rattle.std.specs.Prelude.{slice_get}
use Rattle.fvn_terms.specs.declared.declarations.Rank.{Rank}
use Rattle.fvn_combine_complete.specs.Neutral.{Absorbs}
use Rattle.fvn_combine_candidates.specs.inner.Letting.{RankLets}
use Rattle.fvn_combine_candidates.proofs.vanishing.ranks_let.Given as goal

abbrev pub invariant-loop-j : goal.invariant-loop-j
invariant-loop-j l = (j : ℕ) (r : Rank) → j < l.j → slice_get l.ranks j ≡ Some r → RankLets (Absorbs l.sig l.f l.e) l.swaps l.p r
