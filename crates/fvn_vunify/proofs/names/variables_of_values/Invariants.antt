-- The variables of the values so far.
use Rattle.std.proofs.Common.{◌≡◌, [], take}
use Rattle.fvn_forms.specs.Flat.{fpack}
use Rattle.fvn_flat.specs.Variables.{with_all_variables}
use Rattle.fvn_cover.specs.Covering.{values_of}
use Rattle.fvn_vunify.proofs.names.variables_of_values.Given as goal

abbrev pub invariant-loop-x : goal.invariant-loop-x
invariant-loop-x l = l.vars.items ≡ with_all_variables (fpack (take l.x-index (values_of l.v))) []
