-- What is read is what each written term of the pieces stands for, and a fault is the first of it.
use Rattle.fvn_syntax.proofs.TermMeaning.{reads-ok, refuses-err}
use Rattle.fvn_syntax.proofs.reading.resolve_term.Goals as goal

pub returns-clause-ok : goal.returns-clause-ok
returns-clause-ok c =
    reads-ok c.args.limit c.args.scope.now c.args.seen c.args.row.now c.read_row.result c.read_row.ensures

pub returns-clause-err : goal.returns-clause-err
returns-clause-err c =
    refuses-err c.args.limit c.args.scope.now c.args.seen c.args.row.now c.read_row.result c.read_row.ensures
