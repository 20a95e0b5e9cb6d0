-- One more place.
use Rattle.std.proofs.Common.{◌+◌, sym, subst}
use Rattle.fvn_combine_inferring.specs.inner.Splits.{IsUnsplit}
use Rattle.fvn_combine_inferring.proofs.Splitting.{unsplit_none, unsplit_more}
use Rattle.fvn_combine_inferring.proofs.expressions.unsplit.Goals as goal

pub loop-i-init : goal.loop-i-init
loop-i-init c = subst (IsUnsplit 0) (sym c.in_ok-splits.ensures.items) unsplit_none

pub loop-i-preserved : goal.loop-i-preserved
loop-i-preserved c = subst (IsUnsplit (c.loop-i._i + 1)) (sym c.in_ok-push.ensures.items) (unsplit_more c.loop-i._i c.loop-i.splits.items c.loop-i.invariant)
