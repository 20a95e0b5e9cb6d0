-- Nothing is open of the classes so far.
use Rattle.std.proofs.Common.{take}
use Rattle.fvn_combine_questions.specs.inner.Past.{ArePastPairs}
use Rattle.fvn_combine_questions.proofs.constants.open_of.Given as goal

abbrev pub invariant-loop-k : goal.invariant-loop-k
invariant-loop-k l = ArePastPairs l.state l.reading l.sums (take l.k-index l.sums.columns)
