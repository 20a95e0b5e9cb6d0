-- One more is taken out of both lists, or kept.
use Rattle.std.proofs.Common.{◌+◌, take, take_all, get_or, refl, sym, subst}
use Rattle.fvn_combine_inferring.specs.inner.Lists.{IsTakenOut, IsCancelled}
use Rattle.fvn_combine_inferring.proofs.TakenOut.{cancelled_none, cancelled_more, kept_more}
use Rattle.fvn_combine_inferring.proofs.cancelling.cancel.Goals as goal

pub loop-x-init : goal.loop-x-init
loop-x-init c =
    let left = c.args.left.now.items in
    let right = c.args.right.now in
    subst (IsCancelled left (take 0 right) left) (sym c.new-rest.ensures.items) (cancelled_none left right)

pub loop-x-preserved-then-take_out : goal.loop-x-preserved-then-take_out
loop-x-preserved-then-take_out c =
    let right = c.args.right.now in
    let i = c.loop-x.x-index in
    let x = get_or right i 0 in
    cancelled_more c.args.left.now.items right c.loop-x.left.items c.loop-x.rest.items c.take_out.new.list.items i x c.loop-x-test.true refl c.loop-x.invariant
    (subst (IsTakenOut c.loop-x.left.items c.take_out.new.list.items x) c.if-take_out.true c.take_out.ensures)

pub loop-x-preserved : goal.loop-x-preserved
loop-x-preserved c =
    let right = c.args.right.now in
    let i = c.loop-x.x-index in
    let x = get_or right i 0 in
    subst (IsCancelled c.args.left.now.items (take (i + 1) right) c.take_out.new.list.items) (sym c.in_ok-push.ensures.items)
    (kept_more c.args.left.now.items right c.loop-x.left.items c.loop-x.rest.items c.take_out.new.list.items i x c.loop-x-test.true refl c.loop-x.invariant
    (subst (IsTakenOut c.loop-x.left.items c.take_out.new.list.items x) c.if-take_out.false c.take_out.ensures))

pub returns : goal.returns
returns c = subst (λ r. IsCancelled c.args.left.now.items r c.loop-x.left.items c.loop-x.rest.items) (take_all c.loop-x.x-index c.args.right.now c.loop-x-test.false) c.loop-x.invariant
