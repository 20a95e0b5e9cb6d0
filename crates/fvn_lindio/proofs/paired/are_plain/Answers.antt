-- One point more, and all of them in the end.
use Rattle.std.proofs.Common.{refl, subst}
use Rattle.std.specs.List.{All}
use Rattle.std.proofs.lemmas.List.{take_all}
use Rattle.std.proofs.lemmas.List.Elements.{All-more}
use Rattle.fvn_lindio.specs.inner.Paired.{IsPlain}
use Rattle.fvn_lindio.proofs.paired.are_plain.Goals as goal

pub loop-p-preserved : goal.loop-p-preserved
loop-p-preserved c =
    All-more (IsPlain c.args.sign) c.args.points.now c.loop-p.p-index c.p-item.result c.loop-p-test.true c.loop-p.invariant
    (subst (IsPlain c.args.sign) c.p-item.is (c.if-not-is_plain.ensures refl))

pub returns : goal.returns
returns c = λ _. subst (All (IsPlain c.args.sign)) (take_all c.loop-p.p-index c.args.points.now c.loop-p-test.false) c.loop-p.invariant
