-- What holds in the loop.
use Rattle.std.proofs.Common.{◌↔◌, drop}
use Rattle.fvn_terms.specs.Plain.{terms}
use Rattle.fvn_terms.specs.Substitution.{OccursAmong}
use Rattle.fvn_module.proofs.variables.+occurs.Given as goal

-- the terms that are left decide
abbrev pub invariant-occurs_among-loop-u : goal.invariant-occurs_among-loop-u
invariant-occurs_among-loop-u l = OccursAmong l.x l.us ↔ OccursAmong l.x (terms (drop l.u-index l.u-items))
