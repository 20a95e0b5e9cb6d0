-- the members so far
use Rattle.std.proofs.Common.{◌≤◌, ◌-◌, length, take}
use Rattle.fvn_exploring.specs.declared.ends.ExpandEnd.TheVariants.{Whole}
use Rattle.fvn_fold.specs.inner.Gathering.{IsNextLevel}
use Rattle.fvn_fold.proofs.levels.next_level.Given as goal

abbrev pub invariant-loop-begin : goal.invariant-loop-begin
invariant-loop-begin g l = (l.begin ≤ length l.members) × IsNextLevel (g.E.Expander.setting l.task.expander.now) (g.E.Expander.drawn l.task.expander.now) l.kept (take l.begin l.members) l.next.items Whole

abbrev pub decreases-loop-begin : goal.decreases-loop-begin
decreases-loop-begin g l = length l.members - l.begin
