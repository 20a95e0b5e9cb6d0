-- None of the nodes so far is in the class.
use Rattle.std.proofs.Common.{◌≢◌, ℕ, ◌<◌, get_or}
use Rattle.fvn_combine_nodes.specs.States.{class_of}
use Rattle.fvn_combine_loose.proofs.checking.is_absent.Given as goal

abbrev pub invariant-loop-p : goal.invariant-loop-p
invariant-loop-p l = (k : ℕ) → k < l.p → class_of l.state (get_or l.ks k 0) ≢ l.class
