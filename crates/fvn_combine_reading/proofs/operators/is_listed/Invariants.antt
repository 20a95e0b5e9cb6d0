-- No operator so far is this one.
use Rattle.std.proofs.Common.{◌≡◌, ℕ, ◌<◌, slice_index_or}
use Rattle.fvn_combine_reading.proofs.operators.is_listed.Given as goal

abbrev pub invariant-loop-g : goal.invariant-loop-g
invariant-loop-g l = (k : ℕ) → k < l.g-index → slice_index_or l.list k l.f ≡ l.f → ⊥
