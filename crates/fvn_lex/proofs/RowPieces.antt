-- A text has its pieces alone, and none where it has a fault.
use Rattle.std.proofs.Common.{◌≡◌, ℕ, List, Option, Some, None, Ok, Err, refl, sym, ap, ◌∙◌}
use Rattle.fvn_lex.specs.declared.token.LexFault.{LexFault}
use Rattle.fvn_lex.specs.Cut.{Piece, lex, pieces_of}
use Rattle.fvn_lex.specs.Parts.{HasPieces, IsFirstFault}
use Rattle.fvn_lex.proofs.CutLemmas.{lex-fault, fault-lex}
use Rattle.fvn_lex.proofs.JoinLemmas.{pieces-row, row-pieces}
use Rattle.fvn_lex.proofs.Reading.{pieces_of-err}

abbrev given : List Piece → Option (List Piece)
given ps = Some ps

given-once : (ps qs : List Piece) → given ps ≡ given qs → ps ≡ qs
given-once ps qs e = cc

not-given : (ps : List Piece) (o : Option (List Piece)) → o ≡ None → o ≡ Some ps → ⊥
not-given ps o n s = cc

module _ (bytes : List ℕ) where
  pub has-pieces : (ps : List Piece) → pieces_of bytes ≡ Some ps → HasPieces bytes ps
  has-pieces ps h = pieces-row bytes ps h

  pub pieces-have : (ps : List Piece) → HasPieces bytes ps → pieces_of bytes ≡ Some ps
  pieces-have ps h = row-pieces bytes h.parts h.row h.fit ∙ ap Some h.pieces

  -- a text has its pieces alone
  pub pieces-once : (ps qs : List Piece) → HasPieces bytes ps → HasPieces bytes qs → ps ≡ qs
  pieces-once ps qs h k = given-once ps qs (sym (pieces-have ps h) ∙ pieces-have qs k)

  -- a text with a fault has no pieces
  pub no-pieces : (fault : LexFault) (ps : List Piece) → IsFirstFault bytes fault → HasPieces bytes ps → ⊥
  no-pieces fault ps h k = not-given ps (pieces_of bytes) (pieces_of-err bytes fault (lex-fault bytes fault h)) (pieces-have ps k)

  -- what the text is refused for is its first fault
  pub first-fault : (fault : LexFault) → lex bytes ≡ Err fault → IsFirstFault bytes fault
  first-fault fault h = fault-lex bytes fault h

  -- a text has one first fault at most
  pub first-once : (x y : LexFault) → IsFirstFault bytes x → IsFirstFault bytes y → x ≡ y
  first-once x y h k = let a = lex-fault bytes x h in let b = lex-fault bytes y k in cc
