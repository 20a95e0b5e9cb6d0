-- What holds in the loop.
use Rattle.std.proofs.Common.{◌≡◌, ◌++◌, take, drop, Some}
use Rattle.fvn_module_statements.specs.inner.Gather.{bind}
use Rattle.fvn_module_statements.specs.inner.Forms.{before_end}
use Rattle.fvn_module_statements.proofs.form.before_end.Given as goal

-- the pieces so far stand before the end
abbrev pub invariant-loop-i : goal.invariant-loop-i
invariant-loop-i l = before_end l.row ≡ bind (before_end (drop l.i l.row)) (λ r. Some (take l.i l.row ++ r))
