-- One more value, or the first that does not keep its text.
use Rattle.std.proofs.Common.{inl, inr}
use Rattle.fvn_answer.proofs.TwinTexts.{value-kept, all-kept-texts}
use Rattle.fvn_answer.proofs.RisingTexts.{first-raised}
use Rattle.fvn_answer.proofs.twins.lowers_no_value.Goals as goal

pub loop-z-preserved : goal.loop-z-preserved
loop-z-preserved c =
    value-kept c.args.signature.now c.args.x c.args.y c.args.subst.now c.args.vars.now c.loop-z.z-index _ c.loop-z-test.true
    (c.keeps_value.ensures c.if-not-keeps_value.false) c.loop-z.invariant

pub returns-then-not-keeps_value : goal.returns-then-not-keeps_value
returns-then-not-keeps_value c r =
    inr (first-raised c.args.signature.now c.args.x c.args.y c.args.subst.now c.args.vars.now c.loop-z.z-index _ c.loop-z-test.true (c.raises_value.ensures r) c.loop-z.invariant)

pub returns : goal.returns
returns c r = inl (all-kept-texts c.args.signature.now c.args.x c.args.y c.args.subst.now c.args.vars.now c.loop-z.z-index c.loop-z-test.false c.loop-z.invariant)
