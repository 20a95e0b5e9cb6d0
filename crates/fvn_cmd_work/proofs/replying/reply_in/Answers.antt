-- The unifiers of the problem are counted.
use Rattle.std.proofs.Common.{sym, subst}
use Rattle.std.specs.Prelude.{All}
use Rattle.fvn_problems.specs.Problems.{AreOfOneKind, HasVariables}
use Rattle.fvn_problems.specs.Scopes.{AreNamesOf}
use Rattle.fvn_cmd_unify.proofs.Asking.{module-names}
use Rattle.fvn_cmd_work.proofs.Replied.{problem-counted}
use Rattle.fvn_cmd_work.proofs.replying.reply_in.Goals as goal

pub read_problem-requires : goal.read_problem-requires
read_problem-requires c =
    subst (λ d. AreNamesOf d c.names.result.now) (sym c.signature.ensures) (subst (AreNamesOf c.args.declared.now.signature) (sym c.names.ensures) (module-names c.args.declared.now c.recall_readable.ensures))

pub count-requires-clause-kinded : goal.count-requires-clause-kinded
count-requires-clause-kinded c = subst (λ d. All (AreOfOneKind d) c.in-Ok.problem.pairs) c.signature.ensures c.in-Ok.ensures.kinded

pub count-requires-clause-vars : goal.count-requires-clause-vars
count-requires-clause-vars c = subst (λ d. HasVariables d c.in-Ok.problem) c.signature.ensures c.in-Ok.ensures.vars

pub returns-in_ok-reply-in-Ok : goal.returns-in_ok-reply-in-Ok
returns-in_ok-reply-in-Ok c =
    problem-counted c.args.declared.now c.requires.loaded _ _ c.signature.ensures c.names.ensures c.args.n c.problem_text.result.now c.problem_text.ensures c.in-Ok.problem c.in-Ok.ensures.ok _ _ c.in_ok-reply-in-Ok.ensures
