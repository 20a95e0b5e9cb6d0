-- The chains so far are settled.
use Rattle.fvn_combine_nodes.specs.Classes.{IsNodePartition}
use Rattle.fvn_combine_tree.specs.inner.Closing.{state_of, HasMoved}
use Rattle.fvn_combine_tree.specs.inner.Rounds.{AreChainsSettled}
use Rattle.fvn_combine_tree.proofs.closing.Closing.settle_chains.Given as goal

abbrev pub invariant-loop-i : goal.invariant-loop-i
invariant-loop-i l = HasMoved (IsNodePartition l.sig l.table) (AreChainsSettled l.sig l.table l.chains.keys.items l.i) (state_of l.fn.self) (state_of l.self) l.whole
