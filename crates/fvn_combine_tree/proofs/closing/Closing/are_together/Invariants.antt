-- The nodes so far are in one class.
use Rattle.std.proofs.Common.{◌≡◌, ℕ, ◌<◌, get_or}
use Rattle.fvn_combine_nodes.specs.States.{class_of}
use Rattle.fvn_combine_tree.specs.inner.Closing.{state_of}
use Rattle.fvn_combine_tree.proofs.closing.Closing.are_together.Given as goal

abbrev pub invariant-loop-i : goal.invariant-loop-i
invariant-loop-i l = (k : ℕ) → k < l.i → class_of (state_of l.self) (get_or l.ks k 0) ≡ class_of (state_of l.self) (get_or l.ls k 0)
