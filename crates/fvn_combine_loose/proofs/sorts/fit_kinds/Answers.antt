-- All nodes have the kinds.
use Rattle.std.proofs.Common.{arith}
use Rattle.fvn_combine_loose.proofs.Ranked.{fit_on_kinds}
use Rattle.fvn_combine_loose.proofs.sorts.fit_kinds.Goals as goal

pub returns : goal.returns
returns c t =
    let end = c.loop-p-test.false in
    fit_on_kinds c.args.sig.now c.args.table.now.nodes c.args.ks.now c.args.args.now c.if-ks-args.false (λ p k s l. c.loop-p.invariant p k s (omega (arith, l, end)))
