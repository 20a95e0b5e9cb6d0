-- The terms so far are the same, and the measures of the recursion.
use Rattle.std.proofs.Common.{◌≡◌, ◌+◌, ◌*◌, take}
use Rattle.fvn_rewrite.specs.inner.SortedTerms.{spack, weight, weight_all}
use Rattle.fvn_rewrite.proofs.shared.+same.Given as goal

abbrev pub decreases-Shared::same : goal.decreases-Shared::same
decreases-Shared::same l = 2 * weight l.self.now

abbrev pub decreases-same_all : goal.decreases-same_all
decreases-same_all l = 2 * weight_all (spack l.ts.now) + 1

abbrev pub invariant-same_all-loop-i : goal.invariant-same_all-loop-i
invariant-same_all-loop-i l = take l.i l.ts ≡ take l.i l.us
