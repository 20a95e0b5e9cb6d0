-- No entry so far is of the operator and in the class.
use Rattle.std.proofs.Common.{◌≡◌, ℕ, ◌<◌, slice_index_or}
use Rattle.fvn_terms.specs.declared.plain.OpId.{OpId}
use Rattle.fvn_combine_nodes.specs.States.{class_of}
use Rattle.fvn_combine_reading.proofs.columns.is_identity_class.Given as goal

abbrev pub invariant-loop-g : goal.invariant-loop-g
invariant-loop-g l = (k : ℕ) (p : OpId × ℕ) → k < l.g-index → slice_index_or l.table.units k p ≡ p → p.0 ≡ l.f → class_of l.state p.1 ≡ l.k → ⊥
