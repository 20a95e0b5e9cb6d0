-- The operators so far do not use the class, or are this one.
use Rattle.std.proofs.Common.{◌≡◌, ℕ, ◌<◌, Some}
use Rattle.std.specs.Prelude.{slice_get}
use Rattle.fvn_combine_nodes.specs.States.{class_of}
use Rattle.fvn_combine_leaves.specs.Leaves.{Uses}
use Rattle.fvn_combine_leaves.specs.declared.reading.Sums.{Sums}
use Rattle.fvn_combine_candidates.proofs.vanishing.is_alone.Given as goal

abbrev pub invariant-loop-i : goal.invariant-loop-i
invariant-loop-i l = (i : ℕ) (e : Sums) → i < l.i → slice_get l.reading.sums i ≡ Some e → Uses l.sig l.table (class_of l.state) e.operator l.k → e.operator ≡ l.f
