-- What is kept apart from the identity has a summand.
use Rattle.std.proofs.Common.{arith}
use Rattle.fvn_combine_inferring.proofs.Values.{apart_summand}
use Rattle.fvn_combine_inferring.proofs.bounds.is_apart_from_unit.Goals as goal

pub are_apart-requires : goal.are_apart-requires
are_apart-requires c =
    let w = c.requires.closed.whole in
    let k = c.requires.within in
    let n = c.in-Some.ensures.within in
    record { naming = c.requires.closed.naming; left = omega (arith, w, k); right = omega (arith, w, n) }

pub returns-in-Some : goal.returns-in-Some
returns-in-Some c t values go =
    apart_summand c.args.sig.now c.args.table.now c.requires.sums c.args.state.now c.requires.closed values go.go c.args.f c.in-Some.n c.args.k c.in-Some.ensures.unit c.in-Some.ensures.within c.requires.within (c.are_apart.ensures t)
