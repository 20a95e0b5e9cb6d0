-- No identity so far is in the class.
use Rattle.std.proofs.Common.{◌≡◌, ℕ, ◌<◌, slice_index_or, []}
use Rattle.fvn_terms.specs.declared.plain.OpId.{OpId}
use Rattle.fvn_combine_nodes.specs.Table.{IsOver}
use Rattle.fvn_combine_nodes.specs.States.{class_of}
use Rattle.fvn_purify.proofs.heading.unit_in.Given as goal

abbrev pub invariant-loop-j : goal.invariant-loop-j
invariant-loop-j l = (k : ℕ) (p : OpId × ℕ) → k < l.j-index → slice_index_or l.table.units k p ≡ p → (e : OpId) → class_of l.state l.i ≡ class_of l.state p.1 → IsOver l.table.nodes p.1 e [] → ⊥
