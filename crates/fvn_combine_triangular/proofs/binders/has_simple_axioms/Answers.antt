-- What makes no sums is free or commutative.
use Rattle.std.proofs.Common.{ap}
use Rattle.std.specs.Prelude.{not}
use Rattle.fvn_combine_triangular.proofs.Simple.{simple_told}
use Rattle.fvn_combine_triangular.proofs.binders.has_simple_axioms.Goals as goal

pub returns : goal.returns
returns c = simple_told c.args.axioms _ (ap not c.is_sum.ensures.exact)
