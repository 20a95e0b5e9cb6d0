-- What is placed, and the rest.
use Rattle.std.proofs.Common.{length}
use Rattle.fvn_combine_triangular.specs.inner.Ordering.{AreNotes}
use Rattle.fvn_combine_triangular.proofs.Ordering.{IsPlacing}
use Rattle.fvn_combine_triangular.proofs.order.in_order.Given as goal

abbrev pub decreases-loop-i : goal.decreases-loop-i
decreases-loop-i l = length l.rest.items

abbrev pub invariant-loop-i : goal.invariant-loop-i
invariant-loop-i l = record {
  placing : IsPlacing l.fn.bindings.items l.placed.items l.rest.items;
  noted : AreNotes l.rest.items l.notes.items;
}
