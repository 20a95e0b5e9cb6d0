-- Those that are left, and those that were chosen of the others; and those that are left become fewer.
use Rattle.std.proofs.Common.{length}
use Rattle.fvn_critical.specs.inner.Choosing.{AreChosenBut}
use Rattle.fvn_critical.proofs.choosing.without_subsumed.Given as goal

-- those that were chosen subsume all that are not left
abbrev pub invariant-loop-rule : goal.invariant-loop-rule
invariant-loop-rule l = AreChosenBut l.sig l.fn.rules.items l.rest.items l.chosen.items

-- the rules become fewer
abbrev pub decreases-loop-rule : goal.decreases-loop-rule
decreases-loop-rule l = length l.rest.items
