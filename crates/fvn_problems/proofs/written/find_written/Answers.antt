-- The variable that is written is looked for in the problem.
use Rattle.std.proofs.Common.{Some, sym, subst}
use Rattle.fvn_problems.specs.Scopes.{unguarded}
use Rattle.fvn_problems.specs.inner.Bound.{Writes}
use Rattle.fvn_problems.proofs.Writing.{named, finds-result, finds-nothing}
use Rattle.fvn_problems.proofs.written.find_written.Goals as goal

pub returns-in-None : goal.returns-in-None
returns-in-None c =
    let writes = rw c.in-None.is at c.in_ok-read_variable.ensures in
    finds-nothing c.args.signature.now c.args.names.now c.args.problem.now c.args.row.now writes

pub returns-in-Some : goal.returns-in-Some
returns-in-Some c =
    let writes = rw c.in-Some.is at c.in_ok-read_variable.ensures in
    finds-result c.args.signature.now c.args.names.now c.args.problem.now c.args.row.now c.as_slice.result.now c.in-Some.sort
    (subst (λ t. Writes (unguarded c.args.signature.now c.args.names.now) c.args.row.now (Some (named t c.in-Some.sort))) (sym c.as_slice.ensures) writes)
    c.find_variable.result c.find_variable.ensures.some c.find_variable.ensures.none
