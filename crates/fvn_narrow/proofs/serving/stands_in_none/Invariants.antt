-- The variable stands in none so far.
use Rattle.std.proofs.Common.{take}
use Rattle.fvn_narrow.specs.inner.Serving.{StandsInNone}
use Rattle.fvn_narrow.proofs.serving.stands_in_none.Given as goal

abbrev pub invariant-loop-t : goal.invariant-loop-t
invariant-loop-t l = StandsInNone l.x (take l.t-index l.ts)
