-- The pieces that are left decide.
use Rattle.fvn_weights_reading.proofs.Splitting.{IsCounted}
use Rattle.fvn_weights_reading.proofs.numbers.count_numbers.Given as goal

-- the pieces so far are numbers, and those that are left decide
abbrev pub invariant-loop-piece : goal.invariant-loop-piece
invariant-loop-piece l = IsCounted l.row l.piece-index l.count
