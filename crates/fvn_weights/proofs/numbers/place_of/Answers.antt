-- Where a variable stands.
use Rattle.std.proofs.Common.{sym, ◌∙◌}
use Rattle.fvn_weights.proofs.Placing.{found_here, passed_on}
use Rattle.fvn_weights.proofs.numbers.place_of.Goals as goal

pub loop-i-preserved : goal.loop-i-preserved
loop-i-preserved c = passed_on c.args.x c.args.factors.now c.loop-i.i _ c.loop-i-test.true (sym c.is_same-here.ensures ∙ c.if-here.false) c.loop-i.invariant

pub returns-then-here : goal.returns-then-here
returns-then-here c = sym (found_here c.args.x c.args.factors.now c.loop-i.i _ c.loop-i-test.true (sym c.is_same-here.ensures ∙ c.if-here.true) c.loop-i.invariant)
