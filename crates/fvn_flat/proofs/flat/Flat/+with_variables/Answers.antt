-- The variables of one more argument.
use Rattle.std.proofs.Common.{sym, ap, ◌∙◌}
use Rattle.fvn_flat.specs.Variables.{with_variables}
use Rattle.fvn_flat.proofs.ListedVariables.{with_all-step}
use Rattle.fvn_flat.proofs.flat.Flat.+with_variables.Goals as goal

pub loop-t-preserved : goal.loop-t-preserved
loop-t-preserved t c =
    c.in_ok-all-in-App.ensures
    ∙ ap (with_variables c.t-item.result) c.loop-t.invariant
    ∙ sym (with_all-step c.deref-t-items.result.now c.loop-t.t-index c.t-item.result c.args.vars.items c.loop-t-test.true c.t-item.is)
