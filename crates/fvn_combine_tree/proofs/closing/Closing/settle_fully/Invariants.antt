-- What is joined is so in every partition; each round lowers some names.
use Rattle.std.proofs.Common.{length, sum}
use Rattle.fvn_combine_nodes.specs.Classes.{IsNodePartition}
use Rattle.fvn_combine_tree.specs.inner.Closing.{state_of, HasSameNodes, IsForced}
use Rattle.fvn_combine_tree.specs.inner.Chains.{HasRoom}
use Rattle.fvn_combine_tree.proofs.closing.Closing.settle_fully.Given as goal

abbrev pub invariant-rounds : goal.invariant-rounds
invariant-rounds l = record {
  nodes : HasSameNodes (state_of l.fn.self) (state_of l.self);
  forced : IsForced (IsNodePartition l.sig l.table) (state_of l.fn.self) (state_of l.self);
  room : HasRoom (length l.table.nodes) l.chains;
}

abbrev pub decreases-rounds : goal.decreases-rounds
decreases-rounds l = sum l.self.names.items
