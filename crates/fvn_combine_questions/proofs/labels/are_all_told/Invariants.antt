-- The class is told in the solutions so far.
use Rattle.std.proofs.Common.{take}
use Rattle.fvn_combine_questions.specs.inner.Labels.{AreToldFrom}
use Rattle.fvn_combine_questions.proofs.labels.are_all_told.Given as goal

abbrev pub invariant-loop-v : goal.invariant-loop-v
invariant-loop-v l = AreToldFrom l.reading l.sums l.labels l.state l.i (take l.v-index l.basis)
