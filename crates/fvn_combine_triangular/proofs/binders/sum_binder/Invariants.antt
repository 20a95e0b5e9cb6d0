-- No operator so far.
use Rattle.std.proofs.Common.{ℕ, ◌<◌}
use Rattle.fvn_combine_nodes.specs.States.{class_of}
use Rattle.fvn_combine_admissible.specs.Listed.{tag_in}
use Rattle.fvn_combine_triangular.specs.inner.Planning.{IsBoundAt}
use Rattle.fvn_combine_triangular.proofs.binders.sum_binder.Given as goal

abbrev pub invariant-loop-i : goal.invariant-loop-i
invariant-loop-i l = (j : ℕ) → j < l.i → IsBoundAt l.sig l.table (class_of l.state) (tag_in l.tags) l.reading.sums j l.k → ⊥
