-- The pieces of the tokens so far.
use Rattle.std.proofs.Common.{◌≡◌, map, take}
use Rattle.fvn_lex.specs.Cut.{piece_at}
use Rattle.fvn_syntax.proofs.piece.cut_pieces.Given as goal

-- the pieces of the tokens so far
abbrev pub invariant-loop-token : goal.invariant-loop-token
invariant-loop-token l = l.pieces.items ≡ map (piece_at l.bytes) (take l.token-index l.token-items)
