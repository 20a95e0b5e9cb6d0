-- What holds in the loop.
use Rattle.std.proofs.Common.{◌↔◌, drop}
use Rattle.fvn_terms.specs.Plain.{term, terms}
use Rattle.fvn_module.specs.inner.Sides.{AllOfAllOccur}
use Rattle.fvn_module.proofs.variables.+brings.Given as goal

-- the terms that are left decide
abbrev pub invariant-all_bring_none-loop-u : goal.invariant-all_bring_none-loop-u
invariant-all_bring_none-loop-u l = AllOfAllOccur (term l.left) l.us ↔ AllOfAllOccur (term l.left) (terms (drop l.u-index l.u-items))
