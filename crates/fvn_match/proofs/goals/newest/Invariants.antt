-- The pairs so far gave the value.
use Rattle.std.proofs.Common.{take}
use Rattle.fvn_flat.specs.Bindings.{Bindings}
use Rattle.fvn_match.specs.inner.Goals.{with_bindings, IsBoundTo}
use Rattle.fvn_match.proofs.goals.newest.Given as goal

abbrev pub invariant-loop-pair : goal.invariant-loop-pair
invariant-loop-pair l = (b : Bindings) → IsBoundTo b l.v l.before → IsBoundTo (with_bindings b (take l.pair-index l.pairs)) l.v l.found
