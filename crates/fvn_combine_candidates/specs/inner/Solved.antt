-- Systems that are held with their minimal solutions.
use Rattle.fvn_combine_candidates.specs.inner.Walking.{IsKeptBasis}
use Rattle.fvn_combine_candidates.specs.declared.solving.SolvedSystem.{SolvedSystem}

-- the minimal solutions are those of the system, which is not refused
abbrev pub IsSolved : SolvedSystem → Type 0
IsSolved s = IsKeptBasis s.system s.basis
