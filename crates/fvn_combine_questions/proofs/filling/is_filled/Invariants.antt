-- The solutions so far that have the column are dead.
use Rattle.std.proofs.Common.{take}
use Rattle.fvn_combine_questions.specs.inner.Touched.{IsNotedIn}
use Rattle.fvn_combine_questions.specs.inner.Filling.{AreDeadWith}
use Rattle.fvn_combine_questions.proofs.filling.is_filled.Given as goal

abbrev pub invariant-loop-v : goal.invariant-loop-v
invariant-loop-v l = AreDeadWith l.reading l.sums l.state (IsNotedIn l.sig l.heads) l.i (take l.v-index l.basis)
