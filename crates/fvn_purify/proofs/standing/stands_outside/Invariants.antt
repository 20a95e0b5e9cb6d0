-- The node stands under none so far of another theory.
use Rattle.std.proofs.Common.{ℕ, ◌<◌}
use Rattle.fvn_purify.specs.inner.Standing.{StandsOutsideAt}
use Rattle.fvn_purify.proofs.standing.stands_outside.Given as goal

abbrev pub invariant-loop-j : goal.invariant-loop-j
invariant-loop-j l = (j : ℕ) → j < l.j → StandsOutsideAt l.sig l.table l.i l.own j → ⊥
