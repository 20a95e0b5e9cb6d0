-- None is marked so far.
use Rattle.fvn_combine_inferring.specs.inner.Bounds.{IsUnmarked}
use Rattle.fvn_combine_inferring.proofs.sorts.unmarked.Given as goal

abbrev pub invariant-loop-i : goal.invariant-loop-i
invariant-loop-i l = IsUnmarked l._i l.marks.items
