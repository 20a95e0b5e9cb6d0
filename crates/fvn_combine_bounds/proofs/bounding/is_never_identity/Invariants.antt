-- No node so far is so.
use Rattle.std.proofs.Common.{ℕ, ◌<◌}
use Rattle.fvn_combine_nodes.specs.States.{class_of}
use Rattle.fvn_combine_bounds.specs.inner.Nodes.{IsOtherNode}
use Rattle.fvn_combine_bounds.proofs.bounding.is_never_identity.Given as goal

abbrev pub invariant-loop-i : goal.invariant-loop-i
invariant-loop-i l = (j : ℕ) → j < l.i → IsOtherNode l.sig l.table (class_of l.state) l.f l.k j → ⊥
