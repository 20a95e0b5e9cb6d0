-- The numbers that are left decide.
use Rattle.std.proofs.Common.{◌≡◌, drop, slice_index}
use Rattle.fvn_combine_tree.specs.inner.Chains.{mixed_all}
use Rattle.fvn_combine_tree.proofs.chains.mix_all.Given as goal

abbrev pub invariant-loop-k : goal.invariant-loop-k
invariant-loop-k l = mixed_all (slice_index l.names) l.first l.ks ≡ mixed_all (slice_index l.names) l.key (drop l.k-index l.ks)
