-- Both stand in the list, one behind the other.
use Rattle.std.proofs.Common.{arith}
use Rattle.fvn_narrow.proofs.Divided.{divided_at}
use Rattle.fvn_narrow.proofs.pairing.are_among.Goals as goal

pub returns-in-Some-place_of : goal.returns-in-Some-place_of
returns-in-Some-place_of c = λ yes.
    let low = c.in-Some-place_of.ensures.0 in
    (_, divided_at c.args.ts.now c.in-Some.i c.in-Some-place_of.field-0 (omega (arith, low)) c.args.t.now c.args.u.now c.in-Some.ensures.1 c.in-Some-place_of.ensures.1)
