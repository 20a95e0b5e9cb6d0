-- The variables so far are the same.
use Rattle.std.proofs.Common.{◌≡◌, take}
use Rattle.fvn_narrow_children.specs.inner.Binding.{bound_variables}
use Rattle.fvn_narrow_children.proofs.values.binds_just.Given as goal

abbrev pub invariant-loop-i : goal.invariant-loop-i
invariant-loop-i l = bound_variables (take l.i l.s) ≡ take l.i l.vars
