-- The node is settled with those of its key from the end on.
use Rattle.std.proofs.Common.{◌≤◌}
use Rattle.fvn_combine_nodes.specs.Classes.{IsNodePartition}
use Rattle.fvn_combine_tree.specs.inner.Closing.{state_of, HasMoved}
use Rattle.fvn_combine_tree.specs.inner.Rounds.{IsChainSettled}
use Rattle.fvn_combine_tree.proofs.closing.Closing.settle_chain.Given as goal

abbrev pub invariant-loop-end : goal.invariant-loop-end
invariant-loop-end l = record {
  within : l.end ≤ l.i;
  moved : HasMoved (IsNodePartition l.sig l.table) (IsChainSettled l.sig l.table l.chains.keys.items l.i l.end) (state_of l.fn.self) (state_of l.self) l.whole;
}

abbrev pub decreases-loop-end : goal.decreases-loop-end
decreases-loop-end l = l.end
