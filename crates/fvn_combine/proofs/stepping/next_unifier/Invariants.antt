-- The states are closed, the leaf is open, and what was ahead is ahead, and no more.
use Rattle.std.proofs.Common.{◌≤◌}
use Rattle.fvn_combine_tree.specs.Trees.{AreClosed, AreInOrder, weight}
use Rattle.fvn_combine.specs.Search.{IsOpenedAt}
use Rattle.fvn_combine.specs.Work.{left_by}
use Rattle.fvn_combine.specs.inner.Found.{IsAheadAsBefore}
use Rattle.fvn_combine.proofs.stepping.next_unifier.Given as goal

abbrev pub invariant-steps : goal.invariant-steps
invariant-steps l = record {
  closed : AreClosed l.task.declarations l.task.table l.tree;
  ordered : AreInOrder l.tree;
  opened : IsOpenedAt l.task l.leaf;
  same : IsAheadAsBefore l.task l.initial.tree l.initial.leaf l.tree l.leaf;
  less : left_by l.task l.tree l.leaf ≤ left_by l.task l.initial.tree l.initial.leaf;
}

abbrev pub decreases-steps : goal.decreases-steps
decreases-steps l = weight l.tree
