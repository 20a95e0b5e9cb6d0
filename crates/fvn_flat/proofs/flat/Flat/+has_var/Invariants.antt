-- The arguments that are left decide.
use Rattle.std.proofs.Common.{drop}
use Rattle.std.specs.Prelude.{◌↔◌}
use Rattle.fvn_terms.specs.Substitution.{Occurs}
use Rattle.fvn_forms.specs.Flat.{plain}
use Rattle.fvn_flat.proofs.Occurrences.{OccursIn}
use Rattle.fvn_flat.proofs.flat.Flat.+has_var.Given as goal

abbrev pub invariant-loop-t : goal.invariant-loop-t
invariant-loop-t l = Occurs l.v (plain l.self) ↔ OccursIn l.v (drop l.t-index l.t-items)
