-- The place of a name is below the number of operators, and so it is small enough.
use Rattle.std.proofs.Common.{sym, arith}
use Rattle.fvn_syntax.proofs.TextLemmas.{place-below}
use Rattle.fvn_syntax.proofs.naming.find_operator.Goals as goal

pub overflow_cast-result : goal.overflow_cast-result
overflow_cast-result c =
    let k = place-below c.args.names.now.ops c.args.name.now c.in-Some.i (sym c.in-Some.ensures) in
    let r = c.requires in
    omega (arith, k, r)
