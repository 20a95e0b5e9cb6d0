-- The nodes so far are in one class.
use Rattle.std.proofs.Common.{◌≡◌, ℕ, ◌<◌, get_or}
use Rattle.fvn_combine_nodes.specs.States.{class_of}
use Rattle.fvn_combine_loose.proofs.checking.are_together.Given as goal

abbrev pub invariant-loop-i : goal.invariant-loop-i
invariant-loop-i l = (k : ℕ) → k < l.i → class_of l.state (get_or l.ks k 0) ≡ class_of l.state (get_or l.ls k 0)
