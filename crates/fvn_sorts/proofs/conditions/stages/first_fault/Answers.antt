-- Where no fault of the declarations was found, they agree in kinds.
use Rattle.std.proofs.Common.{arith}
use Rattle.fvn_sorts.specs.declared.conditions.fault.SigFault.TheVariants.{KindsDiffer}
use Rattle.fvn_sorts.proofs.conditions.stages.first_fault.Goals as goal

pub first_result_fault-requires-clause-agree : goal.first_result_fault-requires-clause-agree
first_result_fault-requires-clause-agree c f = c.in-None.ensures (KindsDiffer f) (omega arith) (omega arith)
