-- The first sort on a cycle is the first fault of its condition.
use Rattle.std.proofs.Common.{refl}
use Rattle.fvn_sorts.specs.declared.conditions.fault.SigFault.TheVariants.{SortCycle}
use Rattle.fvn_sorts.proofs.FaultOrder.{only, none_of_one, first_of_one, single}
use Rattle.fvn_sorts.proofs.conditions.stages.cycle_fault.Goals as goal

pub returns-in-Some : goal.returns-in-Some
returns-in-Some c =
    let found = c.in-Some.ensures in
    first_of_one c.args.collected.now 1 SortCycle (only 1) (λ _. refl) c.in-Some.s found.0 (λ q b. found.1 q (single c.args.collected.now q.0 c.in-Some.s.0 b))

pub returns-in-None : goal.returns-in-None
returns-in-None c = none_of_one c.args.collected.now 1 SortCycle (only 1) c.in-None.ensures
