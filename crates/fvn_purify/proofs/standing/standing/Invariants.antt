-- The node stands under none so far.
use Rattle.std.proofs.Common.{ℕ, ◌<◌}
use Rattle.fvn_terms.specs.declared.plain.OpId.{OpId}
use Rattle.fvn_purify.specs.inner.Standing.{StandsUnderAt}
use Rattle.fvn_purify.proofs.standing.standing.Given as goal

abbrev pub invariant-loop-j : goal.invariant-loop-j
invariant-loop-j l = (j : ℕ) → j < l.j → (f : OpId) → StandsUnderAt l.table l.i j f → ⊥
