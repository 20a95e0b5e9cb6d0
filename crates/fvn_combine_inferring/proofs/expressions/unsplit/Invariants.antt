-- None is noted so far.
use Rattle.fvn_combine_inferring.specs.inner.Splits.{IsUnsplit}
use Rattle.fvn_combine_inferring.proofs.expressions.unsplit.Given as goal

abbrev pub invariant-loop-i : goal.invariant-loop-i
invariant-loop-i l = IsUnsplit l._i l.splits.items
