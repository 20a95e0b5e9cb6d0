-- One column more.
use Rattle.fvn_lindio.specs.Systems.{coefficients_of}
use Rattle.std.proofs.Common.{length}
use Rattle.fvn_lindio.proofs.GeneratorLemmas.{Adds-more}
use Rattle.fvn_lindio.proofs.generators.add_units.Goals as goal

pub loop-column-preserved : goal.loop-column-preserved
loop-column-preserved c =
    Adds-more (length c.args.row.now) (coefficients_of c.args.before.now) c.args.row.now c.loop-column.column c.args.points.now.items c.loop-column.points.items c.add_unit.new.points.items c.loop-column.invariant c.in_ok-add_unit.ensures
