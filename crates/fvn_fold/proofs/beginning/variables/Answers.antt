-- the variables of one term more
use Rattle.std.proofs.Common.{sym, ap, ◌∙◌}
use Rattle.fvn_flat.specs.Variables.{with_variables}
use Rattle.fvn_fold.proofs.Begins.{variables_more}
use Rattle.fvn_fold.proofs.beginning.variables.Goals as goal

pub loop-t-preserved : goal.loop-t-preserved
loop-t-preserved c = c.in_ok-vars.ensures ∙ ap (with_variables c.t-item.result) c.loop-t.invariant ∙ sym (variables_more c.args.start.now c.loop-t.t-index c.t-item.result c.loop-t-test.true c.t-item.is)
