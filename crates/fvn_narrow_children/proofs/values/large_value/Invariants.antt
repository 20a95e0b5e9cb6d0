-- None of the values so far is too large.
use Rattle.std.proofs.Common.{take}
use Rattle.fvn_narrow_children.specs.Values.{AreSmallValues}
use Rattle.fvn_narrow_children.proofs.values.large_value.Given as goal

abbrev pub invariant-loop-x : goal.invariant-loop-x
invariant-loop-x l = AreSmallValues (take l.x-index l.vars) l.s l.size
