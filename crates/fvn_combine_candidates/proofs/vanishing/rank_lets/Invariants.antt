-- The sorts at places so far are those that are asked for.
use Rattle.std.proofs.Common.{◌≡◌, ◌⊎◌, ℕ, ◌<◌, true, Some}
use Rattle.std.specs.Prelude.{slice_get}
use Rattle.fvn_terms.specs.declared.plain.SortId.{SortId}
use Rattle.fvn_combine_complete.specs.Neutral.{Absorbs}
use Rattle.fvn_combine_candidates.proofs.vanishing.rank_lets.Given as goal

abbrev pub invariant-loop-q : goal.invariant-loop-q
invariant-loop-q l = (q : ℕ) (a : SortId) → q < l.q → slice_get l.rank.args q ≡ Some a → (l.p ≡ q) ⊎ (l.swaps ≡ true) → Absorbs l.sig l.f l.e a
