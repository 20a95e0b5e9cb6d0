-- the variables of one list, and then of the other
use Rattle.std.proofs.Common.{subst, sym}
use Rattle.fvn_match.specs.inner.Variables.{AreOnce}
use Rattle.fvn_match.proofs.VariableSteps.{are_variables_of_both}
use Rattle.fvn_match.proofs.variables.variables.Goals as goal

pub with_all_variables-requires : goal.with_all_variables-requires
with_all_variables-requires c = subst AreOnce (sym c.new-none.ensures.items) tt

pub with_all_variables-requires-2 : goal.with_all_variables-requires-2
with_all_variables-requires-2 c = c.in_ok-some.ensures.once

pub returns : goal.returns
returns c = are_variables_of_both c.args.patterns.now c.args.others.now c.in_ok-some.some.items c.in_ok-all.all.items (rw c.new-none.ensures.items at c.in_ok-some.ensures) c.in_ok-all.ensures
