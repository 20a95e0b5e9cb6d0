-- the run so far
use Rattle.std.proofs.Common.{◌≤◌, ◌-◌, length}
use Rattle.fvn_fold.specs.inner.Running.{lists_of, IsExploredTo}
use Rattle.fvn_fold.proofs.exploring.levels.Given as goal

abbrev pub invariant-loop-run : goal.invariant-loop-run
invariant-loop-run g l =
    IsExploredTo (g.E.Expander.setting l.task.expander.now) (g.E.Expander.drawn l.task.expander.now) l.start l.depth (lists_of l.run)
    × (l.depth ≤ l.task.limits.levels)
    × (length l.run.kept.items ≤ l.task.limits.variants)

abbrev pub decreases-loop-run : goal.decreases-loop-run
decreases-loop-run g l = l.task.limits.levels - l.depth
