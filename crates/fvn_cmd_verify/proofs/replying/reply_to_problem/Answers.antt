-- The problem is refused with its first fault, or the bindings are looked at.
use Rattle.std.proofs.Common.{sym, subst}
use Rattle.std.specs.Prelude.{All}
use Rattle.fvn_problems.specs.Problems.{AreOfOneKind}
use Rattle.fvn_problems.specs.Scopes.{AreNamesOf}
use Rattle.fvn_cmd_verify.proofs.Asking.{module-names, refused_problem, asked_problem}
use Rattle.fvn_cmd_verify.proofs.replying.reply_to_problem.Goals as goal

pub read_problem-requires : goal.read_problem-requires
read_problem-requires c =
    subst (λ d. AreNamesOf d c.names.result.now) (sym c.signature.ensures) (subst (AreNamesOf c.args.declared.now.signature) (sym c.names.ensures) (module-names c.args.declared.now c.recall_readable.ensures))

pub reply_to_bindings-requires-clause-names : goal.reply_to_bindings-requires-clause-names
reply_to_bindings-requires-clause-names c = module-names c.args.declared.now c.recall_readable.ensures

pub reply_to_bindings-requires-clause-kinded : goal.reply_to_bindings-requires-clause-kinded
reply_to_bindings-requires-clause-kinded c = subst (λ d. All (AreOfOneKind d) c.in-Ok.asked.pairs) c.signature.ensures c.in-Ok.ensures.kinded

pub returns-in_ok-answer-in-Err : goal.returns-in_ok-answer-in-Err
returns-in_ok-answer-in-Err c =
    refused_problem c.args.declared.now _ _ c.signature.ensures c.names.ensures c.args.steps c.args.problem.now c.args.bindings.now c.in-Err.fault c.in-Err.ensures.err _ _
    c.in_ok-answer-in-Err.ensures.status c.in_ok-answer-in-Err.ensures.text

pub returns-in_ok-answer-in-Ok : goal.returns-in_ok-answer-in-Ok
returns-in_ok-answer-in-Ok c =
    asked_problem c.args.declared.now _ _ c.signature.ensures c.names.ensures c.args.steps c.args.problem.now c.args.bindings.now c.in-Ok.asked c.in-Ok.ensures.ok _ _ c.in_ok-answer-in-Ok.ensures
