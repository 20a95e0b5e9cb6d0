-- Without equations there is one verdict at most.
use Rattle.fvn_verify.proofs.WithoutEquations.{one-verdict}
use Rattle.fvn_verify.proofs.laws.verdicts_without_equations_are_determined.Goals as goal

pub returns : goal.returns
returns c = one-verdict c.equality_is_that_of_flat_forms.ensures
