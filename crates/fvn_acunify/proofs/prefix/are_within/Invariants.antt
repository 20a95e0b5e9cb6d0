-- Each column so far has at most 1.
use Rattle.std.proofs.Common.{◌≤◌, All, take, slice_index}
use Rattle.fvn_acunify.proofs.prefix.are_within.Given as goal

abbrev pub invariant-loop-j : goal.invariant-loop-j
invariant-loop-j l = All (λ j. slice_index l.sums j ≤ 1) (take l.j-index l.at_most_one)
