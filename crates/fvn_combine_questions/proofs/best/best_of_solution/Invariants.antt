-- The best one of the columns so far.
use Rattle.std.proofs.Common.{ℕ, ◌+◌, ◌<◌, ◌≤◌, length}
use Rattle.std.specs.Prelude.{IsFalse}
use Rattle.fvn_combine_questions.specs.inner.Touched.{IsNotedIn, StandsIn, ArePastColumns}
use Rattle.fvn_combine_questions.specs.inner.Ranks.{IsBestOr}
use Rattle.fvn_combine_questions.proofs.best.best_of_solution.Given as goal

abbrev pub invariant-loop-step : goal.invariant-loop-step
invariant-loop-step l = IsBestOr l.asking.state.now l.fn.before (IsFalse l.single → (i : ℕ) → i < length l.sums.columns → length l.sums.columns ≤ i + l.step → StandsIn l.asking.reading.now l.sums (IsNotedIn l.asking.sig.now l.asking.heads.now) l.v i → ArePastColumns l.asking.reading.now l.sums l.asking.state.now (IsNotedIn l.asking.sig.now l.asking.heads.now) l.v i) l.best
