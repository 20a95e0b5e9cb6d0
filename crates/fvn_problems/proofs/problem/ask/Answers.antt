-- What is read is what is asked, where there are not too many symbols.
use Rattle.std.proofs.Common.{[], sym, ap, subst, ◌∙◌}
use Rattle.fvn_problems.specs.Variables.{with_sides}
use Rattle.fvn_problems.specs.inner.Steps.{AsksNothing}
use Rattle.fvn_problems.proofs.ProblemTexts.{asks, too-large, refused}
use Rattle.fvn_problems.proofs.problem.ask.Goals as goal

pub returns-then-seen-gt-TEXT_SYMBOLS-clause-err : goal.returns-then-seen-gt-TEXT_SYMBOLS-clause-err
returns-then-seen-gt-TEXT_SYMBOLS-clause-err c =
    too-large c.args.scope.now c.args.list.now c.in-Ok.pairs c.in-Ok.seen c.in-Ok.ensures.ok c.if-seen-gt-TEXT_SYMBOLS.true

pub returns-in-Err-clause-err : goal.returns-in-Err-clause-err
returns-in-Err-clause-err c =
    subst (AsksNothing c.args.scope.now c.args.list.now) (sym c.term_fault.ensures)
    (refused c.args.scope.now c.args.list.now c.in-Err.fault c.in-Err.ensures.err)

pub returns-in_ok-vars-in-Ok-clause-ok : goal.returns-in_ok-vars-in-Ok-clause-ok
returns-in_ok-vars-in-Ok-clause-ok c =
    asks c.args.scope.now c.args.list.now c.in-Ok.pairs c.in-Ok.seen c.in_ok-vars-in-Ok.vars c.in-Ok.ensures.ok c.if-seen-gt-TEXT_SYMBOLS.false
    (c.in_ok-vars-in-Ok.ensures ∙ ap (with_sides []) c.as_slice.ensures)
