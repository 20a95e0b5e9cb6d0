-- The nodes so far are decided.
use Rattle.std.proofs.Common.{ℕ, ◌<◌}
use Rattle.fvn_combine_questions.specs.inner.Swaps.{IsUndecidedIn}
use Rattle.std.specs.Prelude.{None}
use Rattle.fvn_combine_questions.proofs.swaps.undecided.Given as goal

abbrev pub invariant-loop-i : goal.invariant-loop-i
invariant-loop-i l = (k : ℕ) → k < l.i → IsUndecidedIn l.sig l.table l.state k None
