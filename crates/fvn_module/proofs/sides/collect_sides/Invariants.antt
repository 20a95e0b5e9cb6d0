-- What holds in the loop.
use Rattle.std.proofs.Common.{◌≡◌, ◌+◌, ◌++◌, drop}
use Rattle.fvn_module.specs.Equations.{equations_in, equations_from}
use Rattle.fvn_module.proofs.sides.collect_sides.Given as goal

-- the equations so far, and then those of the statements that are left
abbrev pub invariant-loop-i : goal.invariant-loop-i
invariant-loop-i l = equations_in l.statements ≡ l.list.items ++ equations_from (l.i + 1) (drop l.i l.statements)
