-- None of the variables so far.
use Rattle.std.proofs.Common.{◌≤◌, All, take}
use Rattle.fvn_combine_unfolding.specs.inner.Noted.{noted_size}
use Rattle.fvn_combine_unfolding.proofs.sizes.is_too_large.Given as goal

abbrev pub invariant-loop-x : goal.invariant-loop-x
invariant-loop-x l = All (λ x. noted_size l.sizes.items x ≤ l.limit) (take l.x-index l.vars)
