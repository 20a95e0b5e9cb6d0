-- The first groups are joined.
use Rattle.std.proofs.Common.{take}
use Rattle.fvn_module_names.specs.Order.{pairs_of_groups}
use Rattle.fvn_module_names.specs.inner.Joining.{IsJoinedBy}
use Rattle.fvn_module_names.proofs.order.join_neighbours.Given as goal

-- the first groups are joined
abbrev pub invariant-loop-i : goal.invariant-loop-i
invariant-loop-i l = IsJoinedBy l.fn.classes l.joined (pairs_of_groups l.sorts (take l.i l.groups))
