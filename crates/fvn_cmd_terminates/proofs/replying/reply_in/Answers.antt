-- The weights are refused with their first fault, or answered.
use Rattle.std.proofs.Common.{sym, subst}
use Rattle.fvn_problems.specs.Scopes.{AreNamesOf}
use Rattle.fvn_weights.specs.Weighing.{AreWeightsOf}
use Rattle.fvn_cmd.proofs.Replying.{module_names}
use Rattle.fvn_cmd_terminates.proofs.Told.{weights_refused, weights_answered}
use Rattle.fvn_cmd_terminates.proofs.replying.reply_in.Goals as goal

pub read_weights-requires : goal.read_weights-requires
read_weights-requires c =
    subst (λ d. AreNamesOf d c.names.result.now) (sym c.signature.ensures) (subst (AreNamesOf c.args.declared.now.signature) (sym c.names.ensures) (module_names c.args.declared.now c.recall_readable.ensures))

pub answer-requires : goal.answer-requires
answer-requires c = subst (λ d. AreWeightsOf d c.in-Ok.weights.list) c.signature.ensures c.in-Ok.ensures.all

pub returns-in_ok-reply-in-Err : goal.returns-in_ok-reply-in-Err
returns-in_ok-reply-in-Err c =
    weights_refused c.args.declared.now _ _ c.signature.ensures c.names.ensures c.args.word.now c.in-Err.fault c.in-Err.ensures.err _ _
    c.in_ok-reply-in-Err.ensures.status c.in_ok-reply-in-Err.ensures.text

pub returns-in_ok-reply-in-Ok : goal.returns-in_ok-reply-in-Ok
returns-in_ok-reply-in-Ok c =
    weights_answered c.args.declared.now _ _ c.signature.ensures c.names.ensures c.args.word.now c.in-Ok.weights c.in-Ok.ensures.ok _ _ c.in_ok-reply-in-Ok.ensures
