-- One more pair, and all of them.
use Rattle.std.proofs.Common.{get_or, sym, ap, ◌∙◌, arith}
use Rattle.std.proofs.lemmas.List.{take_all}
use Rattle.fvn_narrow_children.specs.inner.Binding.{bound_variables}
use Rattle.fvn_narrow_children.proofs.BoundFacts.{bound_more, untold}
use Rattle.fvn_narrow_children.proofs.values.binds_just.Goals as goal

pub loop-i-preserved : goal.loop-i-preserved
loop-i-preserved c =
    bound_more c.args.s.now c.args.vars.now c.loop-i.i (c.pair.result.0, c.pair.result.1.now) _ (omega (arith, c.loop-i-test.true)) c.loop-i-test.true c.pair.ensures (untold c.pair.result.0 (get_or c.args.vars.now c.loop-i.i _) (sym c.ne.ensures ∙ c.if-ne.false)) c.loop-i.invariant

pub returns : goal.returns
returns c =
    λ h. sym (ap bound_variables (take_all c.loop-i.i c.args.s.now (omega (arith, c.loop-i-test.false)))) ∙ c.loop-i.invariant ∙ take_all c.loop-i.i c.args.vars.now c.loop-i-test.false
