-- The nodes so far are of the kind of the node that names their class.
use Rattle.std.proofs.Common.{ℕ, ◌<◌}
use Rattle.fvn_combine_nodes.specs.States.{class_of}
use Rattle.fvn_combine.specs.inner.Alike.{IsOfItsKind}
use Rattle.fvn_combine.proofs.kinds.are_of_their_kinds.Given as goal

abbrev pub invariant-loop-i : goal.invariant-loop-i
invariant-loop-i l = (j : ℕ) → j < l.i → IsOfItsKind l.task.declarations l.task.table (class_of l.state) j
