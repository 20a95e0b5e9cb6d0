-- One more node; when all are decided the classes are a partition.
use Rattle.std.proofs.Common.{length, arith, below_more, ap, None}
use Rattle.fvn_combine_questions.specs.inner.Swaps.{IsUndecidedIn}
use Rattle.fvn_combine_questions.proofs.Swapping.{decided_partition}
use Rattle.fvn_combine_questions.proofs.swaps.undecided.Goals as goal

pub loop-i-preserved : goal.loop-i-preserved
loop-i-preserved c = below_more (λ k. IsUndecidedIn c.args.sig.now c.args.table.now c.args.state.now k None) c.loop-i.i c.loop-i.invariant c.in-None.ensures

pub returns : goal.returns
returns c =
    let end = c.loop-i-test.false in
    let n = ap length c.nodes-i-end.ensures in
    decided_partition c.args.sig.now c.args.table.now c.args.state.now c.requires.closed (λ i j l m. c.loop-i.invariant i (omega arith) j m)
