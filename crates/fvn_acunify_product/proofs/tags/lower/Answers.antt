-- All places are passed.
use Rattle.std.proofs.Common.{arith}
use Rattle.fvn_acunify_product.proofs.Skips.{lowered}
use Rattle.fvn_acunify_product.proofs.tags.lower.Goals as goal

pub returns : goal.returns
returns c =
    let inv = c.loop-place.invariant in
    let numbered = inv.numbered in
    let over = c.loop-place-test.false in
    lowered c.args.from c.args.numbers.now c.loop-place.numbers numbered inv.front (λ k f l. inv.least k f (omega (arith, over, numbered, l)))
