-- What holds in the loop.
use Rattle.std.proofs.Common.{◌≡◌, ◌++◌, take, drop, Some}
use Rattle.fvn_module_statements.specs.inner.Gather.{bind}
use Rattle.fvn_module_statements.specs.inner.Names.{split_colon}
use Rattle.fvn_module_statements.proofs.names.split_colon.Given as goal

-- the pieces so far stand before the first colon
abbrev pub invariant-loop-i : goal.invariant-loop-i
invariant-loop-i l = split_colon l.row ≡ bind (split_colon (drop l.i l.row)) (λ r. Some (take l.i l.row ++ r.0, r.1))
