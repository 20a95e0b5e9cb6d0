-- A place is below the number of texts.
use Rattle.std.proofs.Common.{sym, arith}
use Rattle.fvn_syntax.proofs.TextLemmas.{place-below}
use Rattle.fvn_module_declarations.proofs.shapes.place_or_end.Goals as goal

pub overflow_cast-result : goal.overflow_cast-result
overflow_cast-result c =
    let k = place-below c.args.texts.now c.args.name.now c.in-Some.i (sym c.in-Some.ensures) in
    let r = c.requires in
    omega (arith, k, r)

pub returns-in-Some-clause-small : goal.returns-in-Some-clause-small
returns-in-Some-clause-small c =
    let k = place-below c.args.texts.now c.args.name.now c.in-Some.i (sym c.in-Some.ensures) in
    let r = c.requires in
    omega (arith, k, r)
