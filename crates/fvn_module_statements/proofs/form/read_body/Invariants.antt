-- What holds in the loop.
use Rattle.std.proofs.Common.{◌≡◌, ◌+◌, drop}
use Rattle.fvn_module_statements.specs.inner.Forms.{statements_from, body_of}
use Rattle.fvn_module_statements.proofs.form.read_body.Given as goal

-- what is left to read decides
abbrev pub invariant-loop-i : goal.invariant-loop-i
invariant-loop-i l = body_of l.row ≡ statements_from (drop l.i l.row) (l.i + 1) l.list.items l.rest
