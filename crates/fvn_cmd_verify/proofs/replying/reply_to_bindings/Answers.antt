-- The bindings are refused with their first fault, or the verdict is told.
use Rattle.fvn_cmd_verify.proofs.Asking.{refused_bindings, told_verdict}
use Rattle.fvn_cmd_verify.proofs.replying.reply_to_bindings.Goals as goal

pub returns-in_ok-answer-in-Err : goal.returns-in_ok-answer-in-Err
returns-in_ok-answer-in-Err c =
    refused_bindings c.args.declared.now _ _ c.signature.ensures c.names.ensures c.args.steps c.args.problem.now c.args.bindings.now c.in-Err.fault c.in-Err.ensures.err _ _
    c.in_ok-answer-in-Err.ensures.status c.in_ok-answer-in-Err.ensures.text

pub returns-in_ok-answer-in-Ok : goal.returns-in_ok-answer-in-Ok
returns-in_ok-answer-in-Ok c =
    told_verdict c.args.declared.now _ _ c.signature.ensures c.names.ensures c.args.steps c.args.problem.now c.args.bindings.now c.in-Ok.bound c.in-Ok.ensures.ok _ _ c.in_ok-answer-in-Ok.ensures
