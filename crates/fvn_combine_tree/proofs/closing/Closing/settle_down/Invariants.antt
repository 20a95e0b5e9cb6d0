-- What was joined so far; each turn lowers some names.
use Rattle.std.proofs.Common.{◌<◌, length, sum}
use Rattle.fvn_combine_nodes.specs.Classes.{IsNodePartition}
use Rattle.fvn_combine_nodes.specs.States.{IsNaming}
use Rattle.fvn_combine_tree.specs.inner.Closing.{state_of, HasMoved}
use Rattle.fvn_combine_tree.proofs.closing.Closing.settle_down.Given as goal

abbrev pub invariant-down : goal.invariant-down
invariant-down l = record {
  left : l.pair.0 < length l.table.nodes;
  right : l.pair.1 < length l.table.nodes;
  moved : HasMoved (IsNodePartition l.sig l.table) IsNaming (state_of l.fn.self) (state_of l.self) l.whole;
}

abbrev pub decreases-down : goal.decreases-down
decreases-down l = sum l.self.names.items
