-- One component more, and all of them in the end.
use Rattle.std.proofs.Common.{ap, sum, arith}
use Rattle.std.proofs.lemmas.List.{take_all}
use Rattle.std.proofs.lemmas.List.Sums.{sum_by_more}
use Rattle.fvn_lindio.proofs.paired.is_unit.Goals as goal

pub loop-a-preserved : goal.loop-a-preserved
loop-a-preserved c = (omega (arith, sum_by_more (λ n. n) c.args.parts.now c.loop-a.a-index 0 c.loop-a-test.true, c.loop-a.invariant.0), omega arith)

pub returns-then-total-eq1 : goal.returns-then-total-eq1
returns-then-total-eq1 c = λ _. omega (arith, ap sum (take_all c.loop-a.a-index c.args.parts.now c.loop-a-test.false), c.loop-a.invariant.0, c.if-total-eq1.true)
