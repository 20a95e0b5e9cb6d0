-- No node so far.
use Rattle.std.proofs.Common.{◌≡◌, ℕ, ◌<◌}
use Rattle.fvn_combine_nodes.specs.States.{class_of}
use Rattle.fvn_combine_triangular.specs.inner.Planning.{IsSimpleNode}
use Rattle.fvn_combine_triangular.proofs.binders.member_of.Given as goal

abbrev pub invariant-loop-i : goal.invariant-loop-i
invariant-loop-i l = (j : ℕ) → j < l.i → class_of l.state j ≡ l.k → IsSimpleNode l.sig l.table j → ⊥
