-- The text of what weights show of equations.
use Rattle.std.specs.Prelude.{ℕ, List, ◌∷◌, ◌++◌, Option, Some, None, codes, decimal}
use Rattle.fvn_syntax.specs.declared.names.Names.{Names}
use Rattle.fvn_weights.specs.declared.fault.WeighFault.{WeighFault}
use Rattle.fvn_weights.specs.declared.fault.WeighFault.TheVariants.{Shape, TooBig, Grows, NoMemory}
use Rattle.fvn_cmd_texts.specs.Refusals.{operator_text}

module _ (names : Names) where
  -- the text of a fault of weights: its operator, or the number of its equation; want of memory has none
  abbrev pub weigh_fault_text : WeighFault → Option (List ℕ)
  weigh_fault_text (Shape f) = Some (codes "weights shape" ++ (32 ∷ operator_text names f))
  weigh_fault_text (TooBig n) = Some (codes "weights big " ++ decimal n)
  weigh_fault_text (Grows n) = Some (codes "weights grows " ++ decimal n)
  weigh_fault_text NoMemory = None

  -- what is said where weights have no fault, or where this is the first
  abbrev pub weighing_text : Option WeighFault → Option (List ℕ)
  weighing_text None = Some (codes "terminates")
  weighing_text (Some fault) = weigh_fault_text fault
