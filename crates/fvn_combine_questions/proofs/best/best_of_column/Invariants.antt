-- The best one with the columns so far.
use Rattle.std.proofs.Common.{ℕ, ◌<◌}
use Rattle.fvn_combine_questions.specs.inner.Touched.{IsNotedIn, StandsIn, AreToldIn}
use Rattle.fvn_combine_questions.specs.inner.Ranks.{IsBestOr}
use Rattle.fvn_combine_questions.proofs.best.best_of_column.Given as goal

abbrev pub invariant-loop-j : goal.invariant-loop-j
invariant-loop-j l = IsBestOr l.asking.state.now l.fn.before ((j : ℕ) → j < l.j → StandsIn l.asking.reading.now l.sums (IsNotedIn l.asking.sig.now l.asking.heads.now) l.v j → AreToldIn l.asking.reading.now l.sums l.asking.state.now l.i j) l.best
