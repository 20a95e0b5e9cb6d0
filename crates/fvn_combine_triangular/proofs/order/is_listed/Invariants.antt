-- No variable so far is this one.
use Rattle.std.proofs.Common.{◌≡◌, ℕ, ◌<◌, slice_index_or}
use Rattle.fvn_combine_triangular.proofs.order.is_listed.Given as goal

abbrev pub invariant-loop-y : goal.invariant-loop-y
invariant-loop-y l = (k : ℕ) → k < l.y-index → slice_index_or l.vars k l.x ≡ l.x → ⊥
