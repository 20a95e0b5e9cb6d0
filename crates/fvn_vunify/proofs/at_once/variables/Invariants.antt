-- The variables of the terms so far.
use Rattle.std.proofs.Common.{◌≡◌, take}
use Rattle.fvn_vunify.specs.inner.OneForms.{variables_of_forms}
use Rattle.fvn_vunify.proofs.at_once.variables.Given as goal

abbrev pub invariant-loop-t : goal.invariant-loop-t
invariant-loop-t l = l.vars.items ≡ variables_of_forms (take l.t-index l.terms)
