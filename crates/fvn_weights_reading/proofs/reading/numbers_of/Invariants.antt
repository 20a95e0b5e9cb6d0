-- The numbers of the pieces so far.
use Rattle.std.proofs.Common.{◌≡◌, map, take}
use Rattle.fvn_weights_reading.proofs.Digits.{value}
use Rattle.fvn_weights_reading.proofs.reading.numbers_of.Given as goal

-- the numbers of the pieces so far
abbrev pub invariant-loop-piece : goal.invariant-loop-piece
invariant-loop-piece l = l.list.items ≡ map value (take l.piece-index l.pieces)
