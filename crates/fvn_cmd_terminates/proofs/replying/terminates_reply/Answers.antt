-- A module is refused with its first fault, or the word is looked at.
use Rattle.fvn_cmd.proofs.Replying.{refused_module}
use Rattle.fvn_cmd_terminates.specs.Replies.{terminates_words, IsTerminatesAnswer}
use Rattle.fvn_cmd_terminates.proofs.Told.{replied_in}
use Rattle.fvn_cmd_terminates.proofs.replying.terminates_reply.Goals as goal

pub returns-in-Ok : goal.returns-in-Ok
returns-in-Ok c = replied_in c.args.bytes.now c.args.word.now c.in-Ok.declared c.in-Ok.ensures.ok c.reply_in.result c.reply_in.ensures

pub returns-in-Err : goal.returns-in-Err
returns-in-Err c =
    refused_module c.args.bytes.now (terminates_words c.args.word.now) (IsTerminatesAnswer c.args.bytes.now c.args.word.now) c.in-Err.fault c.in-Err.ensures.err
    c.refuse_module.result c.refuse_module.ensures.status c.refuse_module.ensures.text
