-- The bytes that are left decide.
use Rattle.std.proofs.Common.{◌≡◌, drop}
use Rattle.std.specs.List.{list_all}
use Rattle.fvn_weights_reading.specs.Spelling.{is_digit}
use Rattle.fvn_weights_reading.proofs.numbers.are_digits.Given as goal

-- the bytes that are left decide
abbrev pub invariant-loop-byte : goal.invariant-loop-byte
invariant-loop-byte l = list_all is_digit l.text ≡ list_all is_digit (drop l.byte-index l.text)
