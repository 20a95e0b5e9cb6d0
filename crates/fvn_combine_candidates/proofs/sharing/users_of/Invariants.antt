-- The users among the operators so far.
use Rattle.fvn_combine_nodes.specs.States.{class_of}
use Rattle.fvn_combine_candidates.specs.inner.Walking.{AreUsersBelow}
use Rattle.fvn_combine_candidates.proofs.sharing.users_of.Given as goal

abbrev pub invariant-loop-i : goal.invariant-loop-i
invariant-loop-i l = AreUsersBelow l.sig l.table (class_of l.state) l.sorted l.reading.sums l.k l.i l.users.items
