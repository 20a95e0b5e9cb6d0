-- The order ties equal forms alone, and flat forms are equal exactly where they are equal modulo the axioms.
use Rattle.std.proofs.Common.{ap, ◌∙◌}
use Rattle.std.specs.Ordering.{is_eq}
use Rattle.fvn_flat.proofs.Comparisons.{same_exact}
use Rattle.fvn_flat.proofs.Fitting.{equal_where_both_fit}
use Rattle.fvn_flat.proofs.flat.Flat.same.Goals as goal

pub returns-clause-exact : goal.returns-clause-exact
returns-clause-exact c = same_exact c.args.self.now c.args.other.now c.is_eq.result (c.is_eq.ensures ∙ ap is_eq c.compare-order.ensures)

pub returns-clause-equal : goal.returns-clause-equal
returns-clause-equal c = equal_where_both_fit c.args.self.now c.args.other.now _ (returns-clause-exact c)
