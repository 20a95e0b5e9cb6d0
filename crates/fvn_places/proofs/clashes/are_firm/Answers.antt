-- One form more.
use Rattle.std.proofs.Common.{All, subst}
use Rattle.std.proofs.lemmas.List.{take_all}
use Rattle.std.proofs.lemmas.List.Elements.{All-more}
use Rattle.fvn_places.specs.inner.Sums.{IsFirm}
use Rattle.fvn_places.proofs.clashes.are_firm.Goals as goal

pub loop-u-preserved : goal.loop-u-preserved
loop-u-preserved c =
    let P = IsFirm c.args.sig.now c.args.f in
    All-more P c.args.us.now c.loop-u.u-index c.u-item.result c.loop-u-test.true c.loop-u.invariant (subst P c.u-item.is (c.is_firm.ensures c.if-not-is_firm.false))

pub returns : goal.returns
returns c e = subst (All (IsFirm c.args.sig.now c.args.f)) (take_all c.loop-u.u-index c.args.us.now c.loop-u-test.false) c.loop-u.invariant
