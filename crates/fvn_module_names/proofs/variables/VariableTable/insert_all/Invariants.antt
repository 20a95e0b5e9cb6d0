-- The names that are left are still to be declared.
use Rattle.std.proofs.Common.{◌≡◌, drop}
use Rattle.fvn_forms.specs.SortOrder.{sort_number}
use Rattle.fvn_module_names.specs.Variables.{with_variables}
use Rattle.fvn_module_names.proofs.variables.VariableTable.insert_all.Given as goal

-- the names that are left are still to be declared
abbrev pub invariant-loop-name : goal.invariant-loop-name
invariant-loop-name l = with_variables l.self (drop l.name-index l.names) (sort_number l.sort) ≡ with_variables l.fn.self l.names (sort_number l.sort)
