-- The numbers so far are positive.
use Rattle.std.proofs.Common.{◌<◌, ◌≤◌, ℕ, get_or}
use Rattle.fvn_weights.proofs.fitting.are_all_positive.Given as goal

abbrev pub invariant-loop-i : goal.invariant-loop-i
invariant-loop-i l = (k : ℕ) → k < l.i → 1 ≤ get_or l.numbers k 1
