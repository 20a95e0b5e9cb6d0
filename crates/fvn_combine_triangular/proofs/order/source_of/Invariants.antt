-- None from this place on.
use Rattle.std.proofs.Common.{ℕ, ◌≤◌, length}
use Rattle.fvn_combine_triangular.specs.inner.Ordering.{IsSourceAt}
use Rattle.fvn_combine_triangular.proofs.order.source_of.Given as goal

abbrev pub decreases-loop-i : goal.decreases-loop-i
decreases-loop-i l = l.i

abbrev pub invariant-loop-i : goal.invariant-loop-i
invariant-loop-i l = record {
  within : l.i ≤ length l.bindings;
  none : (j : ℕ) → l.i ≤ j → IsSourceAt l.bindings j → ⊥;
}
