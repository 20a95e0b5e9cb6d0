-- No operator so far is a twin.
use Rattle.std.proofs.Common.{◌≡◌, ℕ, ◌<◌, Some}
use Rattle.std.specs.Prelude.{slice_get}
use Rattle.fvn_combine_leaves.specs.Users.{IsTwin}
use Rattle.fvn_combine_leaves.specs.declared.reading.Sums.{Sums}
use Rattle.fvn_combine_leaves.proofs.users.has_twin.Given as goal

abbrev pub invariant-loop-i : goal.invariant-loop-i
invariant-loop-i l = (j : ℕ) (e : Sums) → j < l.i → slice_get l.sums j ≡ Some e → IsTwin l.sig l.f l.k e → ⊥
