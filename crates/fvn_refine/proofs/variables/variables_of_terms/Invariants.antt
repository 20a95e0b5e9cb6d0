-- The pairs that are left decide.
use Rattle.std.proofs.Common.{◌≡◌, drop, map}
use Rattle.fvn_forms.specs.Flat.{fpack}
use Rattle.fvn_flat.specs.Variables.{with_all_variables}
use Rattle.fvn_refine.specs.Refinements.{variables_of_terms}
use Rattle.fvn_refine.proofs.variables.variables_of_terms.Given as goal

abbrev pub invariant-loop-i : goal.invariant-loop-i
invariant-loop-i l = variables_of_terms l.subst ≡ with_all_variables (fpack (map (λ p. p.1) (drop l.i l.subst))) l.all.items
