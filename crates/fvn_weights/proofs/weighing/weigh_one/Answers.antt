-- What the equation shows is what is answered.
use Rattle.std.proofs.Common.{refl, subst}
use Rattle.fvn_weights.specs.Weighing.{linear}
use Rattle.fvn_weights.specs.inner.Equations.{IsOutcome}
use Rattle.fvn_weights.proofs.weighing.weigh_one.Goals as goal

pub returns-in-Falling-clause-ok : goal.returns-in-Falling-clause-ok
returns-in-Falling-clause-ok c = subst (IsOutcome (linear c.args.weights.now.list) c.args.e.now) c.in-Falling.is c.in-Ok.ensures

pub returns-in-Big-clause-err : goal.returns-in-Big-clause-err
returns-in-Big-clause-err c = (refl, subst (IsOutcome (linear c.args.weights.now.list) c.args.e.now) c.in-Big.is c.in-Ok.ensures)

pub returns-in-Growing-clause-err : goal.returns-in-Growing-clause-err
returns-in-Growing-clause-err c = (refl, subst (IsOutcome (linear c.args.weights.now.list) c.args.e.now) c.in-Growing.is c.in-Ok.ensures)
