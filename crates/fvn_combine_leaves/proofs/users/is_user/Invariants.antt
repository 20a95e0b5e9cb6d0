-- No column so far is of the class and used.
use Rattle.std.proofs.Common.{◌≡◌, ℕ, ◌<◌, true, false, slice_index, slice_index_or}
use Rattle.fvn_combine_leaves.proofs.users.is_user.Given as goal

abbrev pub invariant-loop-j : goal.invariant-loop-j
invariant-loop-j l = (i : ℕ) → i < l.j → slice_index l.sums.columns i ≡ l.k → slice_index_or l.sums.used i false ≡ true → ⊥
