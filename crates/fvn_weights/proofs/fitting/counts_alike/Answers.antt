-- Two coefficients are compared.
use Rattle.fvn_weights.proofs.FitTests.{equal_numbers}
use Rattle.fvn_weights.proofs.fitting.counts_alike.Goals as goal

pub returns : goal.returns
returns c = equal_numbers c.coefficient_at-first.result c.coefficient_at-second.result _ _ c.coefficient_at-first.ensures c.coefficient_at-second.ensures
