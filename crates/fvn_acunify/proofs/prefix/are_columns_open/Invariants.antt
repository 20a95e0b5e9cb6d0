-- Each column so far that may not be zero can be filled.
use Rattle.std.proofs.Common.{◌≡◌, ℕ, ◌<◌, false, true, slice_index_or}
use Rattle.fvn_acunify.specs.inner.Prefix.{CanBeFilled}
use Rattle.fvn_acunify.proofs.prefix.are_columns_open.Given as goal

abbrev pub invariant-loop-j : goal.invariant-loop-j
invariant-loop-j l = (k : ℕ) → k < l.j → slice_index_or l.may_be_zero k true ≡ false → CanBeFilled l.changed l.constants l.lower l.sums k
