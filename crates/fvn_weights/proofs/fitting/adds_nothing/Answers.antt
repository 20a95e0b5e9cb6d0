-- A constant is compared with nothing.
use Rattle.std.proofs.Common.{refl}
use Rattle.fvn_weights.proofs.FitTests.{equal_numbers}
use Rattle.fvn_weights.proofs.fitting.adds_nothing.Goals as goal

pub returns : goal.returns
returns c = equal_numbers c.constant_at-number.result 0 _ 0 c.constant_at-number.ensures refl
