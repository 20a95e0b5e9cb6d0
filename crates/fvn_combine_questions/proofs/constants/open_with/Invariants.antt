-- Nothing is open with the classes so far.
use Rattle.std.proofs.Common.{take}
use Rattle.fvn_combine_questions.specs.inner.Past.{ArePastClasses}
use Rattle.fvn_combine_questions.proofs.constants.open_with.Given as goal

abbrev pub invariant-loop-l : goal.invariant-loop-l
invariant-loop-l l = ArePastClasses l.state l.reading l.sums l.k (take l.l-index l.sums.columns)
