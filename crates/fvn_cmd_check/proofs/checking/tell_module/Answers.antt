-- The lines on a module.
use Rattle.std.proofs.Common.{◌∙◌}
use Rattle.fvn_cmd_check.proofs.Replying.{tells_sorts}
use Rattle.fvn_cmd_check.proofs.checking.tell_module.Goals as goal

pub returns : goal.returns
returns c =
    tells_sorts c.args.declared.now c.in_ok-loss.loss c.in_ok-loss.ensures c.in_ok-summary.summary.items c.as_slice.result.now c.in_ok-summary.ensures (c.as_slice.ensures.value ∙ c.in_ok-sorts.ensures) _ _
    c.in_ok-answer.ensures.status c.in_ok-answer.ensures.text
