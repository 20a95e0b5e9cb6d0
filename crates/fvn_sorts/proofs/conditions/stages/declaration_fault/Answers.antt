-- The first operator that fails is the first fault of its condition.
use Rattle.fvn_sorts.proofs.FaultOrder.{declared_none, declared_first}
use Rattle.fvn_sorts.proofs.conditions.stages.declaration_fault.Goals as goal

pub returns-in-Some : goal.returns-in-Some
returns-in-Some c = rw c.fault_at.ensures (declared_first c.args.collected.now c.args.condition c.in-Some.op c.in-Some.ensures.0 c.in-Some.ensures.1)

pub returns-in-None : goal.returns-in-None
returns-in-None c = declared_none c.args.collected.now c.args.condition c.in-None.ensures
