-- The terms that are left decide.
use Rattle.std.proofs.Common.{◌≡◌, drop}
use Rattle.fvn_terms.specs.Plain.{terms}
use Rattle.fvn_problems.specs.Variables.{with_all}
use Rattle.fvn_problems.proofs.vars.+variables.Given as goal

abbrev pub invariant-add_all-loop-u : goal.invariant-add_all-loop-u
invariant-add_all-loop-u l = with_all l.fn.vars.items l.us ≡ with_all l.vars.items (terms (drop l.u-index l.u-items))
