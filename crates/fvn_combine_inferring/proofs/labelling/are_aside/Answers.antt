-- One more operator is aside.
use Rattle.std.proofs.Common.{All, take_all, subst, arith}
use Rattle.std.proofs.lemmas.List.Elements.{All-nil, All-more}
use Rattle.fvn_combine_inferring.specs.inner.Labels.{IsAside}
use Rattle.fvn_combine_inferring.proofs.labelling.are_aside.Goals as goal

pub loop-i-init : goal.loop-i-init
loop-i-init c = All-nil (IsAside c.args.sig.now c.args.k c.args.p)

pub loop-i-preserved : goal.loop-i-preserved
loop-i-preserved c =
    All-more (IsAside c.args.sig.now c.args.k c.args.p) c.args.sums.now c.loop-i.i _ (let t = c.loop-i-test.true in omega (arith, t)) c.loop-i.invariant
    (subst (IsAside c.args.sig.now c.args.k c.args.p) c.index-sums-i.is (c.is_aside.ensures c.if-not-is_aside.false))

pub returns : goal.returns
returns c t = subst (All (IsAside c.args.sig.now c.args.k c.args.p)) (take_all c.loop-i.i c.args.sums.now c.loop-i-test.false) c.loop-i.invariant
