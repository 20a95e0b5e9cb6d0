-- What is noted holds where the pairs do.
use Rattle.std.proofs.Common.{ℕ}
use Rattle.fvn_combine_inferring.specs.inner.Sizes.{AreSaid, AreNoted}
use Rattle.fvn_combine_inferring.proofs.sizes.follow_all.Given as goal

abbrev pub invariant-loop-pair : goal.invariant-loop-pair
invariant-loop-pair l = (w : ℕ → ℕ) (k : ℕ) → AreSaid w l.pairs → AreNoted w k l.fn.marks → AreNoted w k l.marks
