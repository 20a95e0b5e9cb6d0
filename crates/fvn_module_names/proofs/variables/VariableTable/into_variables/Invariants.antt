-- The sorts so far are the first ones.
use Rattle.std.proofs.Common.{◌≡◌, map, take}
use Rattle.fvn_forms.specs.SortOrder.{sort_number}
use Rattle.fvn_module_names.proofs.variables.VariableTable.into_variables.Given as goal

-- the sorts so far are the first ones
abbrev pub invariant-loop-number : goal.invariant-loop-number
invariant-loop-number l = l.sorts.items ≡ map sort_number (take l.number-index l.number-items)
