-- It has a single summand beside the column.
use Rattle.std.proofs.Common.{◌≡◌, Bool, true, false, not, refl}
use Rattle.fvn_combine.proofs.homes.is_home.Goals as goal

was_true : (b : Bool) → not b ≡ false → b ≡ true
was_true true e = refl
was_true false e = cc

pub returns : goal.returns
returns c = λ none _. c.has_constant_beside.ensures (was_true c.has_constant_beside.result none)
