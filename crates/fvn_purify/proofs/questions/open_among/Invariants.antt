-- None of the nodes so far is open with the node.
use Rattle.std.proofs.Common.{◌≡◌, ℕ, ◌<◌, slice_index_or}
use Rattle.fvn_combine_nodes.specs.States.{IsOpen}
use Rattle.fvn_purify.proofs.questions.open_among.Given as goal

abbrev pub invariant-loop-y : goal.invariant-loop-y
invariant-loop-y l = (k y : ℕ) → k < l.y-index → slice_index_or l.nodes k y ≡ y → IsOpen l.state l.x y → ⊥
