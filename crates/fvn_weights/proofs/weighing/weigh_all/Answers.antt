-- One equation more falls, or is the first that does not.
use Rattle.std.proofs.Common.{◌+◌, arith}
use Rattle.fvn_weights.specs.Weighing.{linear}
use Rattle.fvn_weights.proofs.Equations.{fall_more, all_fall, first_fault}
use Rattle.fvn_weights.proofs.weighing.weigh_all.Goals as goal

pub loop-e-preserved : goal.loop-e-preserved
loop-e-preserved c = record {
  count = omega (arith, c.loop-e.invariant.count);
  fall = fall_more (linear c.args.weights.now.list) c.args.equations.now c.loop-e.e-index c.e-item.result c.loop-e-test.true c.e-item.is c.loop-e.invariant.fall c.in-Ok.ensures.ok;
}

pub returns-in-Err-clause-err : goal.returns-in-Err-clause-err
returns-in-Err-clause-err c =
    first_fault (linear c.args.weights.now.list) c.args.equations.now c.loop-e.e-index (c.loop-e.number + 1) c.e-item.result c.in-Err.fault c.loop-e-test.true c.e-item.is (omega (arith, c.loop-e.invariant.count)) c.loop-e.invariant.fall c.in-Err.ensures.err

pub returns-clause-ok : goal.returns-clause-ok
returns-clause-ok c = all_fall (linear c.args.weights.now.list) c.args.equations.now c.loop-e.e-index c.loop-e-test.false c.loop-e.invariant.fall
