-- One more place, or two classes in the place of one.
use Rattle.std.proofs.Common.{◌<◌, true, length, zero-le, sym, ap, subst, arith}
use Rattle.fvn_combine_inferring.specs.inner.Splits.{IsSplitPlace, IsExpression}
use Rattle.fvn_combine_inferring.proofs.Splitting.{alone_is, split_more, split_longer}
use Rattle.fvn_combine_inferring.proofs.expressions.expression.Goals as goal

pub loop-step-init : goal.loop-step-init
loop-step-init c = record { is = alone_is c.args.splits.now c.args.k c.in_ok-list.list.items c.requires.within c.in_ok-list.ensures; within = zero-le }

pub split_place-requires : goal.split_place-requires
split_place-requires c =
    let n = c.loop-step.list.ok.0 in
    let w = c.loop-step.invariant.within in
    let t = c.if-place-len.false in
    let here : c.loop-step.place < length c.loop-step.list.items = omega (arith, n, w, t) in
    record { place = here; within = c.loop-step.invariant.is.below c.loop-step.place 0 here }

pub loop-step-preserved-then-not-branch : goal.loop-step-preserved-then-not-branch
loop-step-preserved-then-not-branch c =
    let n = c.loop-step.list.ok.0 in
    let w = c.loop-step.invariant.within in
    let t = c.if-place-len.false in
    let same = subst (IsSplitPlace c.args.splits.now c.loop-step.list.items c.split_place.new.list.items c.loop-step.place) c.if-not-branch.true c.in_ok-split_place.ensures in
    record {
      is = subst (IsExpression c.args.splits.now c.args.k) (sym same) c.loop-step.invariant.is;
      within = let e = ap length same in omega (arith, n, w, t, e);
    }

pub loop-step-preserved : goal.loop-step-preserved
loop-step-preserved c =
    let n = c.loop-step.list.ok.0 in
    let w = c.loop-step.invariant.within in
    let t = c.if-place-len.false in
    let here : c.loop-step.place < length c.loop-step.list.items = omega (arith, n, w, t) in
    let split = subst (IsSplitPlace c.args.splits.now c.loop-step.list.items c.split_place.new.list.items c.loop-step.place) c.if-not-branch.false c.in_ok-split_place.ensures in
    record {
      is = split_more c.args.splits.now c.requires.splits c.args.k c.loop-step.list.items c.split_place.new.list.items c.loop-step.place true here c.loop-step.invariant.is split;
      within = let m = split_longer c.args.splits.now c.loop-step.list.items c.split_place.new.list.items c.loop-step.place split in omega (arith, m, w);
    }

pub returns : goal.returns
returns c = alone_is c.args.splits.now c.args.k c.in_ok-whole.whole.items c.requires.within c.in_ok-whole.ensures
