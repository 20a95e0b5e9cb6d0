-- One constant column more, and in the end all of them.
use Rattle.std.proofs.Common.{refl, sym}
use Rattle.std.proofs.lemmas.List.{take_all}
use Rattle.std.proofs.lemmas.List.Elements.{All-more, All-same}
use Rattle.fvn_acunify.specs.inner.Prefix.{CanBeOne}
use Rattle.fvn_acunify.proofs.prefix.are_constants_open.Goals as goal

pub loop-c-preserved : goal.loop-c-preserved
loop-c-preserved c =
    All-more (CanBeOne c.args.changed.now c.args.constants.now c.args.lower.now c.args.sums.now) c.args.constants.now c.loop-c.c-index 0 c.loop-c-test.true c.loop-c.invariant
    (c.if-sum-gt1.false, c.is_fillable.ensures.0 c.if-not-is_fillable.false)

pub returns : goal.returns
returns c =
    (λ _. All-same (CanBeOne c.args.changed.now c.args.constants.now c.args.lower.now c.args.sums.now) c.args.constants.now _ (sym (take_all c.loop-c.c-index c.args.constants.now c.loop-c-test.false)) c.loop-c.invariant, λ _. refl)
