-- The statements that are left declare the rest.
use Rattle.std.proofs.Common.{◌≡◌, drop}
use Rattle.fvn_module_names.specs.Names.{with_names, operators_in, operators_of}
use Rattle.fvn_module_names.proofs.names.collect_operators.Given as goal

-- the statements that are left declare the rest
abbrev pub invariant-loop-statement : goal.invariant-loop-statement
invariant-loop-statement l = with_names operators_in l.operators (drop l.statement-index l.statements) ≡ operators_of l.statements
