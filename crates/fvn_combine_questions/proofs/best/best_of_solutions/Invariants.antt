-- The best one of the solutions so far.
use Rattle.std.proofs.Common.{take, All}
use Rattle.std.specs.Prelude.{IsFalse}
use Rattle.fvn_combine_questions.specs.inner.Touched.{IsNotedIn, IsPastSolution}
use Rattle.fvn_combine_questions.specs.inner.Ranks.{IsBestOr}
use Rattle.fvn_combine_questions.proofs.best.best_of_solutions.Given as goal

abbrev pub invariant-loop-v : goal.invariant-loop-v
invariant-loop-v l = IsBestOr l.asking.state.now l.fn.before (IsFalse l.single → All (IsPastSolution l.asking.reading.now l.sums l.asking.state.now (IsNotedIn l.asking.sig.now l.asking.heads.now)) (take l.v-index l.basis)) l.best
