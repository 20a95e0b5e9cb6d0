-- the values that are left decide
use Rattle.std.proofs.Common.{◌≡◌, drop}
use Rattle.fvn_answer.specs.inner.Shown.{with_values}
use Rattle.fvn_answer.proofs.numbering.add_values.Given as goal

abbrev pub invariant-loop-x : goal.invariant-loop-x
invariant-loop-x l = with_values l.subst l.fn.list l.fn.vars.items ≡ with_values l.subst (drop l.x-index l.list) l.vars.items
