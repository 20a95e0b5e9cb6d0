-- The nodes so far are checked.
use Rattle.std.proofs.Common.{ℕ, ◌<◌}
use Rattle.fvn_combine_loose.specs.inner.Checks.{IsPut}
use Rattle.fvn_combine_loose.proofs.summing.are_put.Given as goal

abbrev pub invariant-loop-i : goal.invariant-loop-i
invariant-loop-i l = (k : ℕ) → k < l.i → IsPut l.sig l.table l.state l.facts.sorted l.draft.heights.items l.draft.sums.items l.facts.fine.now l.draft.bottom k
