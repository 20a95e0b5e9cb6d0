-- The shared classes that nodes so far name.
use Rattle.std.proofs.Common.{length}
use Rattle.fvn_combine_nodes.specs.States.{class_of}
use Rattle.fvn_combine_candidates.specs.inner.Walking.{AreSharedBelow}
use Rattle.fvn_combine_candidates.proofs.sharing.shared.Given as goal

abbrev pub invariant-loop-k : goal.invariant-loop-k
invariant-loop-k l = AreSharedBelow l.sig l.table (class_of l.state) l.sorted (length l.reading.sums) l.k l.list.items
