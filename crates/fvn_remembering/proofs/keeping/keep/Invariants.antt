-- It is the answer that is offered.
use Rattle.std.proofs.Common.{◌≡◌}
use Rattle.fvn_remembering.proofs.keeping.keep.Given as goal

abbrev pub invariant-loop-slot : goal.invariant-loop-slot
invariant-loop-slot g l = l.rest ≡ l.fn.answer
