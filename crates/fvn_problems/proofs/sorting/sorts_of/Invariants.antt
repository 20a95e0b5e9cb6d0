-- The sorts of the terms so far.
use Rattle.std.proofs.Common.{◌≡◌, map, take}
use Rattle.fvn_problems.proofs.sorting.sorts_of.Given as goal

-- the sorts of the terms so far
abbrev pub invariant-loop-a : goal.invariant-loop-a
invariant-loop-a l = l.sorts.items ≡ map (λ a. a.sort) (take l.a-index l.list)
