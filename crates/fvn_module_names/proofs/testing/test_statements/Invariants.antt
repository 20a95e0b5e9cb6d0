-- The first statements are without fault, and what they declare is known.
use Rattle.std.proofs.Common.{◌≡◌, [], take}
use Rattle.fvn_module_names.specs.Faults.{AreNamed}
use Rattle.fvn_module_names.specs.inner.Testing.{past}
use Rattle.fvn_module_names.proofs.testing.test_statements.Given as goal

-- the first statements are without fault, and what they declare is known
abbrev pub invariant-loop-i : goal.invariant-loop-i
invariant-loop-i l = record {
  earlier : l.earlier ≡ past l.v (take l.i l.statements);
  named : AreNamed l.v.sorts l.v.ops l.v.kinds [] (take l.i l.statements);
}
