-- one form more
use Rattle.std.proofs.Common.{arith}
use Rattle.fvn_match.specs.inner.Summands.{references}
use Rattle.fvn_match.proofs.Runs.{references-get, length_references, run_more, run_ends}
use Rattle.fvn_match.proofs.summands.alike.Goals as goal

pub loop-i-preserved : goal.loop-i-preserved
loop-i-preserved c =
    let xs = c.args.patterns.now in
    let long = length_references xs in
    run_more (references xs) c.loop-i.i c.index-patterns-0.result.now c.index-patterns-i.result.now (omega arith) c.loop-i.invariant (references-get xs c.loop-i.i c.index-patterns-i.result (omega arith) c.index-patterns-i.is) (c.same.ensures.exact.0 c.if-not-same.false)

pub returns-then-not-same : goal.returns-then-not-same
returns-then-not-same c =
    let xs = c.args.patterns.now in
    let long = length_references xs in
    run_ends (references xs) c.loop-i.i c.index-patterns-0.result.now c.index-patterns-i.result.now (omega arith) (omega arith) (references-get xs 0 c.index-patterns-0.result (omega arith) c.index-patterns-0.is) c.loop-i.invariant
    (references-get xs c.loop-i.i c.index-patterns-i.result (omega arith) c.index-patterns-i.is) (λ p. let e = c.same.ensures.exact.1 p in cc)
