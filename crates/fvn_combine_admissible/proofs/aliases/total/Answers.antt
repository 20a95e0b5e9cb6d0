-- Each solution has the column.
use Rattle.std.proofs.Common.{◌<◌, length}
use Rattle.fvn_combine_admissible.proofs.Alone.{of_solution}
use Rattle.fvn_combine_admissible.proofs.aliases.total.Goals as goal

pub part-requires : goal.part-requires
part-requires c = of_solution (λ v. c.args.j < length v) c.args.solutions.now c.requires c.loop-solution.solution-index c.solution-item.result c.loop-solution-test.true c.solution-item.is
