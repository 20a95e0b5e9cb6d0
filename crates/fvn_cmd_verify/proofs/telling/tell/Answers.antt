-- Each verdict is told with its status.
use Rattle.std.proofs.Common.{subst}
use Rattle.fvn_cmd_verify.specs.inner.Steps.{FitsVerdict}
use Rattle.fvn_cmd_verify.proofs.Told.{told_as}
use Rattle.fvn_cmd_verify.proofs.telling.tell.Goals as goal

pub tell_end-requires : goal.tell_end-requires
tell_end-requires c = subst (FitsVerdict c.args.declared.now.signature) c.in-Steps.is c.requires

pub returns-in-Yes : goal.returns-in-Yes
returns-in-Yes c = told_as c.args.declared.now c.args.steps c.args.verdict _ c.in-Yes.is _ _ c.in_ok-answer-in-Yes.ensures.status c.in_ok-answer-in-Yes.ensures.text

pub returns-in-No : goal.returns-in-No
returns-in-No c = told_as c.args.declared.now c.args.steps c.args.verdict _ c.in-No.is _ _ c.in_ok-answer-in-No.ensures.status c.in_ok-answer-in-No.ensures.text

pub returns-in-Steps : goal.returns-in-Steps
returns-in-Steps c = told_as c.args.declared.now c.args.steps c.args.verdict _ c.in-Steps.is _ _ c.in_ok-answer-in-Steps.ensures.status c.in_ok-answer-in-Steps.ensures.text
