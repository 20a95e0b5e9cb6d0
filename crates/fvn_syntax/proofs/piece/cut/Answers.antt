-- What is computed are the pieces of the text.
use Rattle.std.proofs.Common.{◌≡◌, Some}
use Rattle.std.proofs.lemmas.Result.{IfOk-weaker}
use Rattle.fvn_lex.specs.Cut.{pieces_of}
use Rattle.fvn_lex.specs.Parts.{HasPieces}
use Rattle.fvn_lex.proofs.RowPieces.{has-pieces}
use Rattle.fvn_syntax.proofs.piece.cut.Goals as goal

pub returns-clause-ok : goal.returns-clause-ok
returns-clause-ok c =
    IfOk-weaker c.cut_pieces.result (λ list. pieces_of c.args.bytes.now ≡ Some list.items) (λ list. HasPieces c.args.bytes.now list.items)
    (λ list h. has-pieces c.args.bytes.now list.items h) c.cut_pieces.ensures.ok
