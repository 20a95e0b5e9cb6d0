-- What is left gives the whole.
use Rattle.std.proofs.Common.{◌≡◌, [], drop}
use Rattle.fvn_narrow_children.specs.inner.Renaming.{value_variables}
use Rattle.fvn_narrow_children.proofs.starts.value_names.Given as goal

abbrev pub invariant-loop-x : goal.invariant-loop-x
invariant-loop-x l = value_variables l.v.subst (drop l.x-index l.x-items) l.all.items ≡ value_variables l.v.subst l.v.vars []
