-- The digits that are left go on with the number.
use Rattle.fvn_weights_reading.proofs.Digits.{IsRead}
use Rattle.fvn_weights_reading.proofs.numbers.number.Given as goal

-- the digits so far are read
abbrev pub invariant-loop-byte : goal.invariant-loop-byte
invariant-loop-byte l = IsRead l.digits l.byte-index l.value
