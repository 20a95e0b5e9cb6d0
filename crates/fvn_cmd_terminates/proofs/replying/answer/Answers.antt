-- That the equations terminate is told, or the first fault.
use Rattle.std.proofs.Common.{refl}
use Rattle.fvn_cmd_terminates.proofs.Told.{told_termination, told_fault}
use Rattle.fvn_cmd_terminates.proofs.replying.answer.Goals as goal

pub returns-in-Ok : goal.returns-in-Ok
returns-in-Ok c =
    told_termination c.args.declared.now _ c.args.declared.now.names c.signature.ensures refl _ c.equations.ensures c.args.weights.now c.in-Ok.ensures.ok c.in-Ok.ensures.terminates _ _
    c.fixed.ensures.status c.fixed.ensures.text

pub returns-in_ok-answer-in-Err : goal.returns-in_ok-answer-in-Err
returns-in_ok-answer-in-Err c =
    told_fault c.args.declared.now _ c.args.declared.now.names c.signature.ensures refl _ c.equations.ensures c.args.weights.now c.in-Err.fault c.in-Err.ensures.err _ _
    c.in_ok-answer-in-Err.ensures.status c.in_ok-answer-in-Err.ensures.text
