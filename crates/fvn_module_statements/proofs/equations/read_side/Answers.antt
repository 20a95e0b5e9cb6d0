-- A term is taken exactly where the pieces begin with one.
use Rattle.std.proofs.Common.{sym}
use Rattle.std.proofs.lemmas.List.{take_rest}
use Rattle.fvn_module_statements.proofs.EquationExact.{no_term, some_term}
use Rattle.fvn_module_statements.proofs.equations.read_side.Goals as goal

pub returns-in-None : goal.returns-in-None
returns-in-None c = sym (no_term c.args.row.now (rw c.in-None.is at c.in_ok-skip_term.ensures.none))

pub returns-in-Some : goal.returns-in-Some
returns-in-Some c =
    let within = rw c.in-Some.is at c.in_ok-skip_term.ensures.within in
    let term = rw c.in-Some.is at c.in_ok-skip_term.ensures.term in
    rw (c.new.ensures, c.new-in-Some.ensures, take_rest c.args.row.now c.in-Some.n)
    (sym (some_term c.args.row.now c.in-Some.n within term))
