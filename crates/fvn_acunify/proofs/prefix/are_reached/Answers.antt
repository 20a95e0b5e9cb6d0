-- One column more, and in the end all of them.
use Rattle.std.proofs.Common.{refl, sym}
use Rattle.std.proofs.lemmas.List.{take_all}
use Rattle.std.proofs.lemmas.List.Elements.{All-more, All-same}
use Rattle.fvn_acunify.specs.inner.Prefix.{CanBeFilled}
use Rattle.fvn_acunify.proofs.prefix.are_reached.Goals as goal

pub loop-j-preserved : goal.loop-j-preserved
loop-j-preserved c =
    All-more (CanBeFilled c.args.changed.now c.args.constants.now c.args.lower.now c.args.sums.now) c.args.at_least_one.now c.loop-j.j-index 0 c.loop-j-test.true c.loop-j.invariant (c.is_reached.ensures.0 c.if-not-is_reached.false)

pub returns : goal.returns
returns c =
    (λ _. All-same (CanBeFilled c.args.changed.now c.args.constants.now c.args.lower.now c.args.sums.now) c.args.at_least_one.now _ (sym (take_all c.loop-j.j-index c.args.at_least_one.now c.loop-j-test.false)) c.loop-j.invariant, λ _. refl)
