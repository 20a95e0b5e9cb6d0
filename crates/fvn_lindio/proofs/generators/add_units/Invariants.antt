-- The columns so far.
use Rattle.std.proofs.Common.{length}
use Rattle.fvn_lindio.specs.inner.Generators.{Adds, IsNewUnitBelow}
use Rattle.fvn_lindio.specs.Systems.{coefficients_of}
use Rattle.fvn_lindio.proofs.generators.add_units.Given as goal

abbrev pub invariant-loop-column : goal.invariant-loop-column
invariant-loop-column l = Adds l.row (IsNewUnitBelow (length l.row) (coefficients_of l.before) l.row l.column) l.initial.points.items l.points.items
