-- The fault to which a solver's answer leads.
use Rattle.std.specs.Prelude.{List, Option, None, Some}
use Rattle.fvn_flat.specs.Bindings.{Bindings}
use Rattle.fvn_flat.specs.declared.solver.Pairs.{Pairs}
use Rattle.fvn_flat.specs.declared.solver.Solved.{Solved}
use Rattle.fvn_flat.specs.declared.solver.SolveEnd.{SolveEnd}
use Rattle.fvn_flat.specs.declared.solver.SolveEnd.TheVariants.{Complete, Basis as BasisThere, Unifiers as UnifiersThere, Size as SizeThere}
use Rattle.fvn_critical.specs.declared.fault.CriticalFault.{CriticalFault}
use Rattle.fvn_critical.specs.declared.fault.CriticalFault.TheVariants.{Size, Basis, Unifiers}

-- the fault to which an answer with these unifiers and this end leads
abbrev pub fault_after : Pairs → List Bindings → SolveEnd → Option CriticalFault
fault_after given unifiers Complete = None
fault_after given unifiers (BasisThere f system) = Some (Basis f system)
fault_after given unifiers UnifiersThere = Some (Unifiers given unifiers)
fault_after given unifiers (SizeThere cause) = Some (Size cause)

-- the fault to which the answer leads
abbrev pub solver_fault : Pairs → Solved → Option CriticalFault
solver_fault given solved = fault_after given solved.unifiers solved.end
