-- One more variable.
use Rattle.std.proofs.Common.{arith}
use Rattle.fvn_answer.proofs.TwinTexts.{variable-more}
use Rattle.fvn_answer.proofs.twins.are_variables.Goals as goal

pub loop-u-preserved : goal.loop-u-preserved
loop-u-preserved c =
    variable-more c.args.args.now c.loop-u.u-index c.u-item.result c.as_var.result c.is_none.result c.loop-u-test.true c.u-item.is c.as_var.ensures c.is_none.ensures c.if-is_none.false c.loop-u.invariant

pub returns : goal.returns
returns c r i z low = c.loop-u.invariant i z (omega (arith, low, c.loop-u-test.false))
