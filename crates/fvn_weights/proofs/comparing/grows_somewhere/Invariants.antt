-- None of those so far is told to be greater.
use Rattle.std.proofs.Common.{◌<◌, ℕ, false}
use Rattle.fvn_weights.specs.inner.Numbers.{found, TellsAbove}
use Rattle.fvn_weights.proofs.comparing.grows_somewhere.Given as goal

abbrev pub invariant-loop-i : goal.invariant-loop-i
invariant-loop-i l = (j : ℕ) → j < l.i → TellsAbove (found l.left.factors.items) l.right.factors.items j false
