-- The fault of a left side that collapses.
use Rattle.std.specs.Prelude.{ℕ, Option, Some, None}
use Rattle.fvn_cohere.specs.declared.collapsing.Collapse.{Collapse}
use Rattle.fvn_cohere.specs.declared.collapsing.Collapse.TheVariants.{Variable, Identity}
use Rattle.fvn_cohere.specs.declared.faults.LeftFault.{LeftFault}
use Rattle.fvn_cohere.specs.declared.faults.LeftFault.TheVariants.{BecomesVariable, BecomesIdentity}

-- what is wrong with the left side of equation n where it collapses so
abbrev pub fault_of_collapse : ℕ → Option Collapse → Option LeftFault
fault_of_collapse n None = None
fault_of_collapse n (Some Variable) = Some (BecomesVariable n)
fault_of_collapse n (Some Identity) = Some (BecomesIdentity n)
