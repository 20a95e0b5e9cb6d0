-- the pieces that are left
use Rattle.std.proofs.Common.{◌+◌, ◌-◌, ◌*◌}
use Rattle.fvn_fold.proofs.expanding.+pieces.Given as goal

abbrev pub decreases-run : goal.decreases-run
decreases-run g l = 4 * (l.high - l.low)

abbrev pub decreases-halves : goal.decreases-halves
decreases-halves g l = 4 * (l.high - l.low) - 1

abbrev pub decreases-halves-left : goal.decreases-halves-left
decreases-halves-left g l = 4 * (l.middle - l.low) + 1

abbrev pub decreases-halves-right : goal.decreases-halves-right
decreases-halves-right g l = 4 * (l.high - l.middle) + 1
