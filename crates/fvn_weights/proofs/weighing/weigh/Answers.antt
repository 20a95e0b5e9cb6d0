-- The operators, and then the equations.
use Rattle.fvn_weights.specs.Weighing.{linear}
use Rattle.fvn_weights.proofs.Equations.{weighed_terminates, fault_is}
use Rattle.fvn_weights.proofs.weighing.weigh.Goals as goal

pub unfit-requires : goal.unfit-requires
unfit-requires c = c.requires

pub returns-in-Some-clause-err : goal.returns-in-Some-clause-err
returns-in-Some-clause-err c = c.in-Some.ensures

pub returns-in-Ok-clause-ok : goal.returns-in-Ok-clause-ok
returns-in-Ok-clause-ok c = record { fit = c.in-None.ensures; fall = c.in-Ok.ensures.ok }

pub returns-in-Ok-clause-terminates : goal.returns-in-Ok-clause-terminates
returns-in-Ok-clause-terminates c = weighed_terminates (linear c.args.weights.now.list) c.args.sig.now c.args.equations.now c.in-None.ensures c.in-Ok.ensures.ok

pub returns-in-Err-clause-err : goal.returns-in-Err-clause-err
returns-in-Err-clause-err c = fault_is (linear c.args.weights.now.list) c.args.sig.now c.args.equations.now c.in-Err.fault c.in-None.ensures c.in-Err.ensures.err
