-- None of those so far is told to be too large.
use Rattle.std.proofs.Common.{◌<◌, ℕ, false}
use Rattle.fvn_weights.specs.declared.limits.TheConstants.{MOST}
use Rattle.fvn_weights.specs.inner.Numbers.{TellsAbove}
use Rattle.fvn_weights.proofs.comparing.has_over.Given as goal

abbrev pub invariant-loop-i : goal.invariant-loop-i
invariant-loop-i l = (j : ℕ) → j < l.i → TellsAbove (λ x. MOST) l.form.factors.items j false
