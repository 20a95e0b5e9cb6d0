-- The marks are those of such classes.
use Rattle.std.proofs.Common.{length}
use Rattle.fvn_combine_nodes.specs.States.{class_of}
use Rattle.fvn_combine_bounds.specs.Narrow.{IsNeverIdentity}
use Rattle.fvn_combine_inferring.specs.inner.Bounds.{AreMarks}
use Rattle.fvn_combine_inferring.proofs.sorts.mark_other.Given as goal

abbrev pub invariant-loop-i : goal.invariant-loop-i
invariant-loop-i l = AreMarks (length l.table.nodes) (IsNeverIdentity l.sig l.table (class_of l.state) l.f) l.marks.items
