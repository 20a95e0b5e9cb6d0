-- the variables of the arguments so far
use Rattle.std.proofs.Common.{◌≡◌, take}
use Rattle.fvn_flat.specs.Weight.{places}
use Rattle.fvn_forms.specs.Flat.{fpack}
use Rattle.fvn_flat.specs.Variables.{with_all_variables}
use Rattle.fvn_answer.proofs.numbering.+add_variables.Given as goal

abbrev pub decreases-add_variables : goal.decreases-add_variables
decreases-add_variables l = places l.t.now

abbrev pub invariant-loop-u : goal.invariant-loop-u
invariant-loop-u l = l.vars.items ≡ with_all_variables (fpack (take l.u-index l.u-items)) l.fn.vars.items
