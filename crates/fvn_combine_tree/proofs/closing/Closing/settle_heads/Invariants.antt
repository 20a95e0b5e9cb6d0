-- The nodes so far were looked at with their heads.
use Rattle.std.proofs.Common.{length}
use Rattle.fvn_combine_nodes.specs.Classes.{IsNodePartition}
use Rattle.fvn_combine_nodes.specs.States.{IsNaming}
use Rattle.fvn_combine_tree.specs.inner.Closing.{state_of, HasMoved}
use Rattle.fvn_combine_tree.specs.inner.Chains.{HasRoom}
use Rattle.fvn_combine_tree.proofs.closing.Closing.settle_heads.Given as goal

abbrev pub invariant-loop-k : goal.invariant-loop-k
invariant-loop-k l = record {
  room : HasRoom (length l.table.nodes) l.chains;
  moved : HasMoved (IsNodePartition l.sig l.table) IsNaming (state_of l.fn.self) (state_of l.self) l.whole;
}
