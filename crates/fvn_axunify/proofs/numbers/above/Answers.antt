-- One more variable.
use Rattle.std.proofs.Common.{subst}
use Rattle.std.proofs.lemmas.List.{take_all}
use Rattle.fvn_axunify.specs.inner.Numbers.{IsAbove}
use Rattle.fvn_axunify.proofs.Above.{above_none, above_at}
use Rattle.fvn_axunify.proofs.numbers.above.Goals as goal

pub loop-y-init : goal.loop-y-init
loop-y-init c = above_none c.args.low c.requires.low

pub loop-y-preserved : goal.loop-y-preserved
loop-y-preserved c =
    above_at c.args.low c.args.vars.now c.loop-y.y-index _ c.loop-y-test.true (c.requires.below c.loop-y.y-index _ c.loop-y-test.true)
    c.loop-y.next c.max-next.result c.loop-y.invariant c.max-next.ensures

pub returns : goal.returns
returns c = subst (λ l. IsAbove c.args.low l c.loop-y.next) (take_all c.loop-y.y-index c.args.vars.now c.loop-y-test.false) c.loop-y.invariant
