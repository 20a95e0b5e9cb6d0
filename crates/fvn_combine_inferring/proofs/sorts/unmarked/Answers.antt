-- One more place.
use Rattle.std.proofs.Common.{◌+◌, sym, subst}
use Rattle.fvn_combine_inferring.specs.inner.Bounds.{IsUnmarked}
use Rattle.fvn_combine_inferring.proofs.Marks.{unmarked_none, unmarked_more}
use Rattle.fvn_combine_inferring.proofs.sorts.unmarked.Goals as goal

pub loop-i-init : goal.loop-i-init
loop-i-init c = subst (IsUnmarked 0) (sym c.in_ok-marks.ensures.items) unmarked_none

pub loop-i-preserved : goal.loop-i-preserved
loop-i-preserved c = subst (IsUnmarked (c.loop-i._i + 1)) (sym c.in_ok-push.ensures.items) (unmarked_more c.loop-i._i c.loop-i.marks.items c.loop-i.invariant)
