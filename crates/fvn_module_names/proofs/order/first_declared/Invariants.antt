-- The names that are left have the first declared sort.
use Rattle.std.proofs.Common.{◌≡◌, drop}
use Rattle.std.specs.Prelude.{slice_get}
use Rattle.fvn_module_names.specs.Order.{declared_among}
use Rattle.fvn_module_names.proofs.order.first_declared.Given as goal

-- the names that are left have the first declared sort
abbrev pub invariant-loop-name : goal.invariant-loop-name
invariant-loop-name l = slice_get (declared_among l.sorts (drop l.name-index l.names)) 0 ≡ slice_get (declared_among l.sorts l.names) 0
