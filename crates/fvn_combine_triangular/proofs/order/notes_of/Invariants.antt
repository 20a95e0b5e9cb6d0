-- The variables of the forms so far.
use Rattle.std.proofs.Common.{take}
use Rattle.fvn_combine_triangular.specs.inner.Ordering.{AreNotes}
use Rattle.fvn_combine_triangular.proofs.order.notes_of.Given as goal

abbrev pub invariant-loop-t : goal.invariant-loop-t
invariant-loop-t l = AreNotes (take l.t-index l.bindings) l.notes.items
