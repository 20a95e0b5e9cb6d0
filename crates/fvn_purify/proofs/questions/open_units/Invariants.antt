-- No node so far is open with an identity.
use Rattle.std.proofs.Common.{◌≡◌, ℕ, ◌<◌, slice_index_or, Contains}
use Rattle.fvn_terms.specs.declared.plain.OpId.{OpId}
use Rattle.fvn_combine_nodes.specs.States.{IsOpen}
use Rattle.fvn_purify.proofs.questions.open_units.Given as goal

abbrev pub invariant-loop-x : goal.invariant-loop-x
invariant-loop-x l = (k x : ℕ) → k < l.x-index → slice_index_or l.headed k x ≡ x → (p : OpId × ℕ) → Contains l.units p → IsOpen l.state x p.1 → ⊥
