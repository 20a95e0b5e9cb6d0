-- What holds in the loop.
use Rattle.std.proofs.Common.{◌≡◌, ◌++◌, ◌≤◌, take, drop, Some}
use Rattle.fvn_module_statements.specs.inner.Gather.{bind}
use Rattle.fvn_module_statements.specs.inner.Names.{before_close}
use Rattle.fvn_module_statements.proofs.names.before_close.Given as goal

-- the pieces so far stand before the parenthesis that closes
abbrev pub invariant-loop-i : goal.invariant-loop-i
invariant-loop-i l = record {
  few : l.depth ≤ l.i;
  rest : before_close 0 l.row ≡ bind (before_close l.depth (drop l.i l.row)) (λ r. Some (take l.i l.row ++ r.0, r.1));
}
