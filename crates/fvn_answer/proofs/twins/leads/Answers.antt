-- One more that it goes before.
use Rattle.std.proofs.Common.{arith}
use Rattle.fvn_answer.proofs.TwinTexts.{leads-further}
use Rattle.fvn_answer.proofs.twins.leads.Goals as goal

pub loop-i-init : goal.loop-i-init
loop-i-init c = (λ i x y low high. absurd (omega (arith, low, high)), omega arith)

pub loop-i-preserved : goal.loop-i-preserved
loop-i-preserved c =
    let up = c.loop-i.invariant.1 in (
      leads-further c.args.signature.now c.args.printed.now c.args.order.now c.args.k c.loop-i.i _ c.requires.within c.loop-i-test.true
          (c.goes_first.ensures c.if-not-goes_first.false) c.loop-i.invariant.0,
      omega (arith, up),
    )

pub returns : goal.returns
returns c r i x y low high =
    c.loop-i.invariant.0 i x y low (omega (arith, high, c.loop-i-test.false))
