-- The constant is this number.
use Rattle.std.proofs.Common.{refl}
use Rattle.fvn_weights_reading.proofs.laws.numbers_have_nine_digits.Goals as goal

pub returns : goal.returns
returns c = refl
