-- Each minimal solution is found, or stands above a vector ahead.
use Rattle.fvn_lindio.specs.Systems.{coefficients_of}
use Rattle.std.proofs.Common.{length}
use Rattle.fvn_lindio.proofs.Trails.{Going}
use Rattle.fvn_lindio.proofs.rows.extended.Given as goal

abbrev pub invariant-loop : goal.invariant-loop
invariant-loop l = Going (length l.row) (coefficients_of l.before) l.row l.points.items l.counter l.end l.level
