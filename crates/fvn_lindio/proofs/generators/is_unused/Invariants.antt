-- The rows so far do not use the column.
use Rattle.std.proofs.Common.{take}
use Rattle.fvn_lindio.specs.Systems.{IsUnused, coefficients_of}
use Rattle.fvn_lindio.proofs.generators.is_unused.Given as goal

abbrev pub invariant-loop-row : goal.invariant-loop-row
invariant-loop-row l = IsUnused (coefficients_of (take l.row-index l.rows)) l.column
