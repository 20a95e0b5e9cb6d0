-- The class is told from those of the columns so far.
use Rattle.std.proofs.Common.{ℕ, ◌<◌}
use Rattle.fvn_combine_questions.specs.inner.Touched.{AreToldIn}
use Rattle.fvn_combine_questions.specs.inner.Labels.{CompetesIn}
use Rattle.fvn_combine_questions.proofs.labels.is_told.Given as goal

abbrev pub invariant-loop-j : goal.invariant-loop-j
invariant-loop-j l = (j : ℕ) → j < l.j → CompetesIn l.reading l.sums l.labels l.v j → AreToldIn l.reading l.sums l.state l.i j
