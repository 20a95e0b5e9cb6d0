-- A coefficient is compared with one.
use Rattle.std.proofs.Common.{refl}
use Rattle.fvn_weights.proofs.FitTests.{equal_numbers}
use Rattle.fvn_weights.proofs.fitting.counts_once.Goals as goal

pub returns : goal.returns
returns c = equal_numbers c.coefficient_at-number.result 1 _ 1 c.coefficient_at-number.ensures refl
