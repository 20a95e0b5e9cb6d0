-- The room stays.
use Rattle.std.proofs.Common.{length}
use Rattle.fvn_combine_tree.specs.inner.Chains.{HasRoom}
use Rattle.fvn_combine_tree.proofs.chains.Chains.lead_all.Given as goal

abbrev pub invariant-loop-k : goal.invariant-loop-k
invariant-loop-k l = HasRoom (length l.names) l.self
