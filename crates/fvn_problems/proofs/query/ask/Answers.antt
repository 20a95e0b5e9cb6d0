-- A fault of the term is one of its text, and so is its size.
use Rattle.std.proofs.Common.{refl, sym, subst}
use Rattle.fvn_problems.specs.inner.Steps.{AsksNoTerm}
use Rattle.fvn_problems.proofs.QueryTexts.{too-large, refused}
use Rattle.fvn_problems.proofs.query.ask.Goals as goal

pub returns-then-seen-gt-TEXT_SYMBOLS-clause-err : goal.returns-then-seen-gt-TEXT_SYMBOLS-clause-err
returns-then-seen-gt-TEXT_SYMBOLS-clause-err c =
    too-large c.args.scope.now c.args.row.now (record { texts = c.new.result; count = 0 }) c.new.ensures refl (c.in-Ok.read, c.in-Ok.seen) c.in-Ok.ensures.ok c.if-seen-gt-TEXT_SYMBOLS.true

pub returns-in-Err-clause-err : goal.returns-in-Err-clause-err
returns-in-Err-clause-err c =
    subst (AsksNoTerm c.args.scope.now c.args.row.now) (sym c.term_fault.ensures)
    (refused c.args.scope.now c.args.row.now (record { texts = c.new.result; count = 0 }) c.new.ensures c.in-Err.fault c.in-Err.ensures.err)
