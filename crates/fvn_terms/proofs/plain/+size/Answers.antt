-- The steps of `size` that the check leaves open.
use Rattle.std.proofs.Common.{arith}
use Rattle.fvn_terms.proofs.Plains.{nodes_all-take_more}
use Rattle.fvn_terms.proofs.plain.+size.Goals as goal

pub Args::size-loop-t-preserved : goal.Args::size-loop-t-preserved
Args::size-loop-t-preserved t c =
    let e = nodes_all-take_more c.deref-t-items.result.now c.loop-t.t-index c.t-item.result c.loop-t-test.true c.t-item.is in
    grind arith
