-- The pairs of the first groups are there.
use Rattle.std.proofs.Common.{◌≡◌, take}
use Rattle.fvn_module_names.specs.Order.{pairs_of_groups}
use Rattle.fvn_module_declarations.specs.inner.Pairs.{with_more}
use Rattle.fvn_module_declarations.proofs.pairs.PairBuilder.add_neighbours.Given as goal

-- the pairs of the first groups are there
abbrev pub invariant-loop-i : goal.invariant-loop-i
invariant-loop-i l = l.pairs ≡ with_more l.fn.self (pairs_of_groups l.sorts (take l.i l.groups))
