-- One more is left out, or kept.
use Rattle.std.proofs.Common.{◌+◌, take, take_all, get_or, refl, sym, subst}
use Rattle.fvn_combine_inferring.specs.inner.Lists.{IsWithout}
use Rattle.fvn_combine_inferring.proofs.TakenOut.{without_none, without_more, with_more}
use Rattle.fvn_combine_inferring.proofs.cancelling.without.Goals as goal

pub loop-x-init : goal.loop-x-init
loop-x-init c = subst (IsWithout c.args.given (take 0 c.args.list.now)) (sym c.new-kept.ensures.items) (without_none c.args.given c.args.list.now)

pub loop-x-preserved-then-is_given : goal.loop-x-preserved-then-is_given
loop-x-preserved-then-is_given c =
    let list = c.args.list.now in
    let i = c.loop-x.x-index in
    without_more c.args.given list c.loop-x.kept.items i (get_or list i 0) c.loop-x-test.true refl c.loop-x.invariant (c.is_given.ensures.0 c.if-is_given.true)

pub loop-x-preserved : goal.loop-x-preserved
loop-x-preserved c =
    let list = c.args.list.now in
    let i = c.loop-x.x-index in
    subst (IsWithout c.args.given (take (i + 1) list)) (sym c.in_ok-push.ensures.items)
    (with_more c.args.given list c.loop-x.kept.items i (get_or list i 0) c.loop-x-test.true refl c.loop-x.invariant)

pub returns : goal.returns
returns c = subst (λ l. IsWithout c.args.given l c.loop-x.kept.items) (take_all c.loop-x.x-index c.args.list.now c.loop-x-test.false) c.loop-x.invariant
