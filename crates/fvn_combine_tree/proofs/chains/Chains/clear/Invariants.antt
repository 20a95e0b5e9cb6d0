-- The room stays.
use Rattle.fvn_combine_tree.specs.inner.Chains.{HasRoom}
use Rattle.fvn_combine_tree.proofs.chains.Chains.clear.Given as goal

abbrev pub invariant-loop-i : goal.invariant-loop-i
invariant-loop-i l = HasRoom l.count l.self
