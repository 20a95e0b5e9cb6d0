-- What is noted so far are splits.
use Rattle.fvn_combine_inferring.specs.inner.Splits.{AreSplits}
use Rattle.fvn_combine_inferring.proofs.expressions.splits_of.Given as goal

abbrev pub invariant-loop-i : goal.invariant-loop-i
invariant-loop-i l = AreSplits l.table l.state l.f l.splits.items
