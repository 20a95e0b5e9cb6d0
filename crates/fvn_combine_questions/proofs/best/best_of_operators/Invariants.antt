-- The best one of the operators so far.
use Rattle.std.proofs.Common.{◌≡◌, ℕ, ◌+◌, ◌<◌, ◌≤◌, [], length, Some, None, slice_get, slice_index_or}
use Rattle.std.specs.Prelude.{IsFalse}
use Rattle.fvn_combine_leaves.specs.declared.reading.Sums.{Sums}
use Rattle.fvn_combine_questions.specs.inner.Touched.{IsNotedIn, ArePastTouched}
use Rattle.fvn_combine_questions.specs.inner.Ranks.{IsBestOr}
use Rattle.fvn_combine_questions.proofs.best.best_of_operators.Given as goal

abbrev pub invariant-loop-step : goal.invariant-loop-step
invariant-loop-step l = IsBestOr l.asking.state.now None ((i : ℕ) → i < length l.asking.reading.now.sums → length l.asking.reading.now.sums ≤ i + l.step → IsFalse l.single → (e : Sums) → slice_get l.asking.reading.now.sums i ≡ Some e → ArePastTouched l.asking.reading.now e l.asking.state.now (IsNotedIn l.asking.sig.now l.asking.heads.now) (slice_index_or l.bases i [])) l.best
