-- What holds in the loop.
use Rattle.std.proofs.Common.{◌≡◌, ◌++◌, take, drop, Some}
use Rattle.fvn_module_statements.specs.inner.Gather.{bind}
use Rattle.fvn_module_statements.specs.inner.Forms.{split_dot}
use Rattle.fvn_module_statements.proofs.form.split_dot.Given as goal

-- the pieces so far stand before the first dot
abbrev pub invariant-loop-i : goal.invariant-loop-i
invariant-loop-i l = split_dot l.row ≡ bind (split_dot (drop l.i l.row)) (λ r. Some (take l.i l.row ++ r.0, r.1))
