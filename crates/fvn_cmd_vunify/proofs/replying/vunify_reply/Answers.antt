-- A module is refused with its first fault, or the word is looked at.
use Rattle.std.proofs.Common.{inl}
use Rattle.fvn_cmd_vunify.proofs.replying.vunify_reply.Goals as goal

pub reply_in-requires-clause-search : goal.reply_in-requires-clause-search
reply_in-requires-clause-search g c lives order = record {
  usable = c.in-Ok.ensures.rules.usable;
  equations = c.in-Ok.ensures.rules.equations;
  keeps = c.requires.reach;
  workers_are = c.requires.workers;
}

pub returns-in_ok-reply-in-Ok : goal.returns-in_ok-reply-in-Ok
returns-in_ok-reply-in-Ok g c = c.in_ok-reply-in-Ok.ensures c.args.bytes.now c.in-Ok.ensures.ok

pub returns-in_ok-reply-in-Err : goal.returns-in_ok-reply-in-Err
returns-in_ok-reply-in-Err g c =
    inl (inl (c.in_ok-reply-in-Err.ensures.status, record { fault = c.in-Err.fault; first = c.in-Err.ensures.err; line_of = c.in_ok-reply-in-Err.ensures.text }))
