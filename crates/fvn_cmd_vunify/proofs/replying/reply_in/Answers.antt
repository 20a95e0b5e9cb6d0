-- The problem is refused with its first fault, or answered.
use Rattle.std.proofs.Common.{sym, subst}
use Rattle.fvn_problems.specs.Scopes.{AreNamesOf}
use Rattle.fvn_cmd.proofs.Replying.{module_names}
use Rattle.fvn_cmd_vunify.proofs.Replied.{problem_in, problem_refused, problem_answered}
use Rattle.fvn_cmd_vunify.proofs.replying.reply_in.Goals as goal

pub read_problem-requires : goal.read_problem-requires
read_problem-requires g c =
    subst (λ d. AreNamesOf d c.names.result.now) (sym c.signature.ensures) (subst (AreNamesOf c.args.search.now.declared.now.signature) (sym c.names.ensures) (module_names c.args.search.now.declared.now c.recall_readable.ensures))

pub answer-requires-clause-problem : goal.answer-requires-clause-problem
answer-requires-clause-problem g c κs within =
    problem_in c.args.search.now.declared.now _ _ c.signature.ensures c.names.ensures c.args.search.now.reach c.args.word.now c.in-Ok.problem c.problem_names_are_words.ensures c.problem_names_differ.ensures c.in-Ok.ensures.ok
    c.in-Ok.ensures.kinded c.in-Ok.ensures.vars

pub returns-in_ok-reply-in-Err : goal.returns-in_ok-reply-in-Err
returns-in_ok-reply-in-Err g c =
    problem_refused c.args.search.now.declared.now _ _ c.signature.ensures c.names.ensures c.args.search.now.reach c.args.word.now c.in-Err.fault c.in-Err.ensures.err _ _
    c.in_ok-reply-in-Err.ensures.status c.in_ok-reply-in-Err.ensures.text

pub returns-in_ok-reply-in-Ok : goal.returns-in_ok-reply-in-Ok
returns-in_ok-reply-in-Ok g c =
    problem_answered c.args.search.now.declared.now _ _ c.signature.ensures c.names.ensures c.args.search.now.reach c.args.word.now c.in-Ok.problem c.in-Ok.ensures.ok _ _ c.in_ok-reply-in-Ok.ensures
