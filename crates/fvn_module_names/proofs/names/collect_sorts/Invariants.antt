-- The statements that are left declare the rest.
use Rattle.std.proofs.Common.{◌≡◌, drop}
use Rattle.fvn_module_names.specs.Names.{with_names, sorts_in, sorts_of}
use Rattle.fvn_module_names.proofs.names.collect_sorts.Given as goal

-- the statements that are left declare the rest
abbrev pub invariant-loop-statement : goal.invariant-loop-statement
invariant-loop-statement l = with_names sorts_in l.sorts (drop l.statement-index l.statements) ≡ sorts_of l.statements
