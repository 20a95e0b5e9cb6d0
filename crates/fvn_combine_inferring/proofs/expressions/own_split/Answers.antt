-- The name of a class is a node.
use Rattle.std.proofs.Common.{arith}
use Rattle.fvn_combine_inferring.proofs.Values.{name_within}
use Rattle.fvn_combine_inferring.proofs.expressions.own_split.Goals as goal

pub head_at-requires : goal.head_at-requires
head_at-requires c =
    let w = c.requires.closed.whole in
    let k = c.requires.within in
    let n = c.requires.heads in
    let m = name_within c.args.sig.now c.args.table.now c.args.state.now c.requires.closed c.args.i c.requires.within in
    record { within = omega (arith, w, k); heads = omega (arith, n, m) }
