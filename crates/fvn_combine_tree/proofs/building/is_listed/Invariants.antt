-- No entry so far is of the operator.
use Rattle.std.proofs.Common.{◌≡◌, ◌≢◌, ℕ, ◌<◌, slice_index_or}
use Rattle.fvn_terms.specs.declared.plain.OpId.{OpId}
use Rattle.fvn_combine_tree.proofs.building.is_listed.Given as goal

abbrev pub invariant-loop-g : goal.invariant-loop-g
invariant-loop-g l = (k : ℕ) (p : OpId × ℕ) → k < l.g-index → slice_index_or l.units k p ≡ p → p.0 ≢ l.f
