-- A variable with the text's number and the sort is the one, and without it there is none.
use Rattle.std.proofs.Common.{sym}
use Rattle.fvn_problems.proofs.Writing.{no-text, found-the, none-found}
use Rattle.fvn_problems.proofs.written.find_variable.Goals as goal

pub returns-in-None-clause-none : goal.returns-in-None-clause-none
returns-in-None-clause-none c = no-text c.args.problem.now c.args.text.now c.args.sort (sym c.in-None.ensures)

pub returns-in-Some-clause-some : goal.returns-in-Some-clause-some
returns-in-Some-clause-some c =
    found-the c.args.problem.now c.args.text.now c.args.sort c.in-Some.i (sym c.in-Some.ensures) c.as_slice.result.now c.as_slice.ensures c.find_named.result c.find_named.ensures.some

pub returns-in-Some-clause-none : goal.returns-in-Some-clause-none
returns-in-Some-clause-none c =
    none-found c.args.problem.now c.args.text.now c.args.sort c.in-Some.i (sym c.in-Some.ensures) c.are_distinct.ensures c.as_slice.result.now c.as_slice.ensures c.find_named.result c.find_named.ensures.none
