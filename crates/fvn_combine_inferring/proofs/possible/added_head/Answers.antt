-- The first class has one, or the second.
use Rattle.std.proofs.Common.{inl, arith}
use Rattle.fvn_combine_nodes.proofs.Admitting.{named_within}
use Rattle.fvn_combine_inferring.proofs.possible.added_head.Goals as goal

pub head_apart-requires : goal.head_apart-requires
head_apart-requires c =
    let n = c.requires.heads in
    let m = named_within c.args.state.now c.requires.naming c.args.p.0 c.requires.left in
    record { within = c.requires.left; heads = omega (arith, n, m) }

pub head_apart-requires-in-None : goal.head_apart-requires-in-None
head_apart-requires-in-None c =
    let n = c.requires.heads in
    let m = named_within c.args.state.now c.requires.naming c.args.p.1 c.requires.right in
    record { within = c.requires.right; heads = omega (arith, n, m) }

pub returns-in-Some : goal.returns-in-Some
returns-in-Some c = inl c.in-Some.ensures
