-- The terms that are left, and then the sum of the others, give the whole; and they become fewer.
use Rattle.std.proofs.Common.{◌≡◌, ◌∷◌, ◌++◌, [], length}
use Rattle.fvn_problems.specs.inner.Sorting.{sum_of_all}
use Rattle.fvn_problems.proofs.sorting.sort_sum.Given as goal

-- the terms that are left and the sum of the others
abbrev pub invariant-loop-a : goal.invariant-loop-a
invariant-loop-a l = sum_of_all l.signature l.f l.fn.list.items ≡ sum_of_all l.signature l.f (l.left.items ++ (l.whole ∷ []))

-- the terms become fewer
abbrev pub decreases-loop-a : goal.decreases-loop-a
decreases-loop-a l = length l.left.items
