-- One operator more.
use Rattle.std.proofs.Common.{refl, ap, ◌∙◌, arith}
use Rattle.fvn_weights_reading.specs.Reading.{plain_weight}
use Rattle.fvn_weights_reading.proofs.Weighed.{none-plain, one-plain, all-plain}
use Rattle.fvn_weights_reading.proofs.reading.plain_weights.Goals as goal

pub loop-n-init : goal.loop-n-init
loop-n-init c = none-plain c.args.signature.now c.new-list.result.items c.new-list.ensures.items

pub loop-n-preserved : goal.loop-n-preserved
loop-n-preserved c =
    one-plain c.args.signature.now c.loop-n.list.items c.loop-n.n c.loop-n.invariant _ refl c.in_ok-weight.weight
    (c.in_ok-weight.ensures ∙ ap plain_weight c.arity-arity.ensures) c.push.new.self.items c.in_ok-push.ensures.items

pub returns : goal.returns
returns c = all-plain c.args.signature.now c.loop-n.list.items c.loop-n.n c.loop-n.invariant (omega (arith, c.loop-n-test.false, c.loop-n.auto.n-end, c.op_count-n-end.ensures))
