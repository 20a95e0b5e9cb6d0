-- A problem that was read has variables that are asked for.
use Rattle.fvn_tests_answer.proofs.Asking.{names-of, problem-asked}
use Rattle.fvn_tests_answer.proofs.tests.printing.line_of_texts.Goals as goal

pub read_problem-requires : goal.read_problem-requires
read_problem-requires c = rw (c.signature.ensures, c.names.ensures) (names-of c.args.declared.now c.recall_readable.ensures)

pub line_twice-requires-clause-vars : goal.line_twice-requires-clause-vars
line_twice-requires-clause-vars c =
    rw c.signature.ensures at
    (problem-asked c.signature.result.now c.names.result.now c.args.problem.now c.in-Ok.asked c.problem_names_are_words.ensures c.in-Ok.ensures.ok c.in-Ok.ensures.vars c.are_distinct.ensures)
