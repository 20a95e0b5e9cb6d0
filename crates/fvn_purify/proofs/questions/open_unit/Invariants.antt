-- No identity so far is open with the node.
use Rattle.std.proofs.Common.{◌≡◌, ℕ, ◌<◌, slice_index_or}
use Rattle.fvn_terms.specs.declared.plain.OpId.{OpId}
use Rattle.fvn_combine_nodes.specs.States.{IsOpen}
use Rattle.fvn_purify.proofs.questions.open_unit.Given as goal

abbrev pub invariant-loop-y : goal.invariant-loop-y
invariant-loop-y l = (k : ℕ) (p : OpId × ℕ) → k < l.y-index → slice_index_or l.units k p ≡ p → IsOpen l.state l.x p.1 → ⊥
