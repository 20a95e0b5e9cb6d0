-- The lemma is the law.
use Rattle.fvn_lex.proofs.RowPieces.{has-pieces, pieces-have}
use Rattle.fvn_lex.proofs.laws.pieces_are_the_cut.Goals as goal

pub returns : goal.returns
returns c = λ bytes ps. (has-pieces bytes ps, pieces-have bytes ps)
