-- One more row.
use Rattle.std.proofs.Common.{length, ap, arith}
use Rattle.fvn_purify.proofs.Listed.{row_done, pairs_done}
use Rattle.fvn_purify.proofs.listing.pairs.Goals as goal

pub loop-j-preserved : goal.loop-j-preserved
loop-j-preserved c = row_done c.args.sig.now c.args.table.now c.add_pairs.new.list.items c.loop-j.j c.in_ok-add_pairs.ensures

pub returns : goal.returns
returns c =
    let end = c.loop-j-test.false in
    let n = ap length c.nodes-j-end.ensures in
    pairs_done c.args.sig.now c.args.table.now c.loop-j.list.items c.loop-j.j (omega arith) c.loop-j.invariant
