-- The node is decided with those so far.
use Rattle.std.proofs.Common.{ℕ, ◌<◌}
use Rattle.fvn_combine_questions.specs.inner.Swaps.{AreDecided}
use Rattle.fvn_combine_questions.proofs.swaps.undecided_in.Given as goal

abbrev pub invariant-loop-j : goal.invariant-loop-j
invariant-loop-j l = (k : ℕ) → k < l.j → AreDecided l.sig l.table l.state l.i k
