-- The solutions so far are in the list.
use Rattle.std.proofs.Common.{take, Contains}
use Rattle.fvn_lindio.specs.Systems.{vectors_of}
use Rattle.fvn_combine_candidates.specs.inner.Placed.{GrowsBy, IsOrderedOf}
use Rattle.fvn_combine_candidates.proofs.alive.put_all.Given as goal

abbrev pub invariant-loop-solution : goal.invariant-loop-solution
invariant-loop-solution l = IsOrderedOf l.columns (vectors_of l.list.items) × GrowsBy (Contains (vectors_of (take l.solution-index l.more))) (vectors_of l.initial.list.items) (vectors_of l.list.items)
