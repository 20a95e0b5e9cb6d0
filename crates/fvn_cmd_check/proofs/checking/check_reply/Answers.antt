-- A module is told, or refused with its first fault.
use Rattle.fvn_cmd_check.proofs.Replying.{told_reply, refused_reply}
use Rattle.fvn_cmd_check.proofs.checking.check_reply.Goals as goal

pub returns-in-Ok : goal.returns-in-Ok
returns-in-Ok c = told_reply c.args.bytes.now c.in-Ok.declared c.in-Ok.ensures.ok c.tell_module.result c.tell_module.ensures

pub returns-in-Err : goal.returns-in-Err
returns-in-Err c = refused_reply c.args.bytes.now c.in-Err.fault c.in-Err.ensures.err c.refuse_module.result c.refuse_module.ensures.status c.refuse_module.ensures.text
