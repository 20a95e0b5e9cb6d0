-- A module is refused with its first fault, or the words are looked at.
use Rattle.fvn_cmd_verify.proofs.Asking.{refused_module}
use Rattle.fvn_cmd_verify.proofs.replying.verify_reply.Goals as goal

pub reply_to_problem-requires : goal.reply_to_problem-requires
reply_to_problem-requires c = record { harmless = c.in-Ok.ensures.ok.harmless }

pub returns-in_ok-answer-in-Ok : goal.returns-in_ok-answer-in-Ok
returns-in_ok-answer-in-Ok c = c.in_ok-answer-in-Ok.ensures c.args.bytes.now c.in-Ok.ensures.ok

pub returns-in_ok-answer-in-Err : goal.returns-in_ok-answer-in-Err
returns-in_ok-answer-in-Err c =
    refused_module c.args.bytes.now c.args.problem.now c.args.bindings.now c.args.steps c.in-Err.fault c.in-Err.ensures.err _ _
    c.in_ok-answer-in-Err.ensures.status c.in_ok-answer-in-Err.ensures.text
