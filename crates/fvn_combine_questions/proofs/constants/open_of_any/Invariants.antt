-- Nothing is open of the operators so far.
use Rattle.std.proofs.Common.{take, All}
use Rattle.fvn_combine_questions.specs.inner.Past.{ArePastPairs}
use Rattle.fvn_combine_questions.proofs.constants.open_of_any.Given as goal

abbrev pub invariant-loop-s : goal.invariant-loop-s
invariant-loop-s l = All (λ s. ArePastPairs l.state l.reading s s.columns) (take l.s-index l.reading.sums)
