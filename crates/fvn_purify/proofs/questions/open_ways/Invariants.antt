-- No pair of one class so far has open first arguments.
use Rattle.std.proofs.Common.{◌≡◌, ℕ, ◌<◌, slice_index_or}
use Rattle.fvn_combine_nodes.specs.States.{IsOpen, class_of}
use Rattle.fvn_purify.specs.inner.Options.{AreFirst}
use Rattle.fvn_purify.proofs.questions.open_ways.Given as goal

abbrev pub invariant-loop-i : goal.invariant-loop-i
invariant-loop-i l = (k : ℕ) (p : ℕ × ℕ) → k < l.i-index → slice_index_or l.pairs k p ≡ p → (x y : ℕ) → class_of l.state p.0 ≡ class_of l.state p.1 → AreFirst l.table p x y → IsOpen l.state x y → ⊥
