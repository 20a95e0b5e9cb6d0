-- What is noted holds where the pairs do.
use Rattle.std.proofs.Common.{ℕ}
use Rattle.fvn_combine_inferring.specs.inner.Sizes.{AreSaid, AreNoted}
use Rattle.fvn_combine_inferring.proofs.sizes.follow_chains.Given as goal

abbrev pub invariant-loop-round : goal.invariant-loop-round
invariant-loop-round l = (w : ℕ → ℕ) (k : ℕ) → AreSaid w l.pairs → AreNoted w k l.fn.marks → AreNoted w k l.marks
