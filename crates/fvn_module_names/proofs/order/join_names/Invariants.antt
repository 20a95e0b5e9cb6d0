-- The first names are joined.
use Rattle.std.proofs.Common.{map, take}
use Rattle.fvn_forms.specs.SortOrder.{sort_number}
use Rattle.fvn_module_names.specs.Order.{declared_among}
use Rattle.fvn_module_names.specs.inner.Joining.{IsJoinedBy}
use Rattle.fvn_module_names.proofs.order.join_names.Given as goal

-- the first names are joined
abbrev pub invariant-loop-name : goal.invariant-loop-name
invariant-loop-name l = IsJoinedBy l.fn.classes l.joined (map (λ s. (s, sort_number l.with)) (declared_among l.sorts (take l.name-index l.names)))
