-- Where it stands.
use Rattle.std.proofs.Common.{arith}
use Rattle.fvn_answer.proofs.TwinTexts.{first-at}
use Rattle.fvn_answer.proofs.twins.has_first.Goals as goal

pub returns-then-is_first_tip : goal.returns-then-is_first_tip
returns-then-is_first_tip c r =
    let within = c.requires.within in
    first-at c.args.signature.now c.args.printed.now c.args.order.now c.args.k c.args.j c.args.tips.now c.args.x c.loop-i.i _ c.loop-i.invariant c.loop-i-test.true
    (omega (arith, within, c.loop-i-test.true)) (c.is_first_tip.ensures c.if-is_first_tip.true)
