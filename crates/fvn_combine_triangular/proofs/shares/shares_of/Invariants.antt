-- The shares so far.
use Rattle.std.proofs.Common.{◌≡◌, ◌+◌}
use Rattle.fvn_lindio.specs.Systems.{vectors_of}
use Rattle.fvn_combine_nodes.specs.States.{class_of}
use Rattle.fvn_combine_leaves.specs.Readings.{AreSums}
use Rattle.fvn_combine_admissible.specs.Listed.{tag_in}
use Rattle.fvn_combine_triangular.proofs.Standing.{AreSharesFront}
use Rattle.fvn_combine_triangular.proofs.shares.shares_of.Given as goal

abbrev pub invariant-loop-solution : goal.invariant-loop-solution
invariant-loop-solution l = record {
  next : l.next ≡ l.fn.start + l.solution-index;
  shares : (are : AreSums l.fn.sig l.fn.table (class_of l.fn.state) l.fn.sums)
      → AreSharesFront l.fn.sig l.fn.table (class_of l.fn.state) (tag_in l.fn.tags) l.fn.sums are l.fn.names l.fn.start (vectors_of l.solution-items) l.solution-index l.shares.items;
}
