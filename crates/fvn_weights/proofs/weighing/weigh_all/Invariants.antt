-- The equations so far fall.
use Rattle.std.proofs.Common.{◌≡◌, ◌<◌, ℕ, Some, slice_get}
use Rattle.fvn_theory.specs.declared.equation.Equation.{Equation}
use Rattle.fvn_weights.specs.Weighing.{linear, IsFalling}
use Rattle.fvn_weights.proofs.weighing.weigh_all.Given as goal

abbrev pub invariant-loop-e : goal.invariant-loop-e
invariant-loop-e l = record {
  count : l.number ≡ l.e-index;
  fall : (k : ℕ) → k < l.e-index → (x : Equation) → slice_get l.equations k ≡ Some x → IsFalling (linear l.weights.list) x;
}
