-- The solution is free in the columns so far, but in one.
use Rattle.std.proofs.Common.{◌≢◌, ℕ, ◌<◌}
use Rattle.fvn_combine_questions.specs.inner.Labels.{IsFreeAt}
use Rattle.fvn_combine_questions.proofs.labels.is_free_but.Given as goal

abbrev pub invariant-loop-j : goal.invariant-loop-j
invariant-loop-j l = (j : ℕ) → j < l.j → j ≢ l.i → IsFreeAt l.reading l.sums l.labels l.v j
