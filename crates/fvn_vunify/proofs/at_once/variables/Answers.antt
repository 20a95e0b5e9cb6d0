-- One more term.
use Rattle.std.proofs.Common.{[], sym, ap, ◌∙◌}
use Rattle.fvn_flat.specs.Variables.{with_variables}
use Rattle.fvn_flat.proofs.ListedVariables.{with_all-step}
use Rattle.fvn_vunify.proofs.at_once.variables.Goals as goal

pub loop-t-preserved : goal.loop-t-preserved
loop-t-preserved c = c.in_ok-vars.ensures ∙ ap (with_variables c.t-item.result) c.loop-t.invariant ∙ sym (with_all-step c.args.terms.now c.loop-t.t-index c.t-item.result [] c.loop-t-test.true c.t-item.is)
