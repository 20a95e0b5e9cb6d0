-- The sorts of the first names, each once.
use Rattle.std.proofs.Common.{◌≡◌, [], map, take}
use Rattle.fvn_forms.specs.SortOrder.{sort_number, same_sort}
use Rattle.fvn_module_names.specs.Order.{with_all, declared_among}
use Rattle.fvn_module_declarations.proofs.pairs.distinct_sorts.Given as goal

-- the sorts of the first names, each once
abbrev pub invariant-loop-name : goal.invariant-loop-name
invariant-loop-name l = map sort_number l.distinct.items ≡ with_all same_sort [] (declared_among l.sorts (take l.name-index l.names))
