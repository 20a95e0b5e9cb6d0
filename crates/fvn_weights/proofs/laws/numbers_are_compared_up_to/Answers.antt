-- The constant is this number.
use Rattle.std.proofs.Common.{refl}
use Rattle.fvn_weights.proofs.laws.numbers_are_compared_up_to.Goals as goal

pub returns : goal.returns
returns c = refl
