-- The nodes so far have their keys.
use Rattle.std.proofs.Common.{◌≡◌, ℕ, ◌<◌, List, length, slice_index}
use Rattle.fvn_terms.specs.declared.plain.OpId.{OpId}
use Rattle.fvn_combine_nodes.specs.Table.{IsOver}
use Rattle.fvn_combine_tree.specs.inner.Chains.{HasRoom, key_of}
use Rattle.fvn_combine_tree.proofs.chains.Chains.key_all.Given as goal

abbrev pub invariant-loop-i : goal.invariant-loop-i
invariant-loop-i l = record {
  room : HasRoom (length l.names) l.self;
  keys : (k : ℕ) → k < l.i → (f : OpId) (ks : List ℕ) → IsOver l.table.nodes k f ks → slice_index l.self.keys.items k ≡ key_of l.names l.by k f ks;
}
