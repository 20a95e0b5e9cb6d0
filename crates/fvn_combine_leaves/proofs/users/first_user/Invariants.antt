-- No operator so far uses the class.
use Rattle.std.proofs.Common.{ℕ, ◌<◌, ◌≤◌}
use Rattle.fvn_combine_leaves.specs.Users.{IsUserAt}
use Rattle.fvn_combine_leaves.proofs.users.first_user.Given as goal

abbrev pub invariant-loop-i : goal.invariant-loop-i
invariant-loop-i l = (i : ℕ) → l.start ≤ i → i < l.i → IsUserAt l.sums i l.k → ⊥
