-- No part so far is open with another.
use Rattle.std.proofs.Common.{◌≡◌, ℕ, ◌<◌, slice_index_or, Contains}
use Rattle.fvn_combine_nodes.specs.States.{IsOpen}
use Rattle.fvn_purify.proofs.questions.open_parts.Given as goal

abbrev pub invariant-loop-x : goal.invariant-loop-x
invariant-loop-x l = (k x : ℕ) → k < l.x-index → slice_index_or l.parts k x ≡ x → (y : ℕ) → Contains l.parts y → IsOpen l.state x y → ⊥
