-- The variables of the arguments so far.
use Rattle.std.proofs.Common.{◌≡◌, take}
use Rattle.fvn_forms.specs.Flat.{fpack}
use Rattle.fvn_flat.specs.Variables.{with_all_variables}
use Rattle.fvn_flat.proofs.flat.Flat.+with_variables.Given as goal

abbrev pub invariant-loop-t : goal.invariant-loop-t
invariant-loop-t l = l.all.items ≡ with_all_variables (fpack (take l.t-index l.t-items)) l.initial.all.items
