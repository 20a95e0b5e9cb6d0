-- What is proved of all texts.
use Rattle.std.specs.Prelude.{ℕ, ◌≡◌, ◌↔◌, ◌⊎◌, false, IsTrue, List, [], ◌∷◌, ◌++◌, Ok, Err, Some, map}
use Rattle.std.specs.List.{All}
use Rattle.fvn_lex.specs.declared.token.Token.{Token}
use Rattle.fvn_lex.specs.declared.token.LexFault.{LexFault}
use Rattle.fvn_lex.specs.Bytes.{is_blank}
use Rattle.fvn_lex.specs.Cut.{lex, Piece, piece_at, pieces_of}
use Rattle.fvn_lex.specs.Parts.{IsCutInto, HasPieces, IsFirstFault, row_pieces, IsWordPiece, IsSpecialPiece}
use Rattle.fvn_lex.specs.Join.{IsPiece, needs_space, Laid, pieces, join}

-- A text has these tokens exactly where it is a row of parts with them.
abbrev pub TokensAreTheCut : Type 0
TokensAreTheCut = (bytes : List ℕ) (list : List Token) → (lex bytes ≡ Ok list) ↔ IsCutInto bytes list

-- A text has this fault exactly where it is a row of parts up to it.
abbrev pub FaultIsTheFirst : Type 0
FaultIsTheFirst = (bytes : List ℕ) (fault : LexFault) → (lex bytes ≡ Err fault) ↔ IsFirstFault bytes fault

-- The text of each token, as its part has it, is its slice of the bytes.
abbrev pub TextsAreSlices : Type 0
TextsAreSlices = (bytes : List ℕ) (list : List Token) (cut : IsCutInto bytes list) →
    map (piece_at bytes) list ≡ row_pieces cut.parts

-- A text has these pieces exactly where it is a row of parts with them.
abbrev pub PiecesAreTheCut : Type 0
PiecesAreTheCut = (bytes : List ℕ) (ps : List Piece) → (pieces_of bytes ≡ Some ps) ↔ HasPieces bytes ps

-- A byte of white space at the end of a text changes nothing.
abbrev pub TrailingWhiteSpace : Type 0
TrailingWhiteSpace = (bytes : List ℕ) (b : ℕ) → IsTrue (is_blank b) → lex (bytes ++ b ∷ []) ≡ lex bytes

-- A piece is a token by itself exactly where it is a word or one of the special bytes.
abbrev pub PiecesByForm : Type 0
PiecesByForm = (p : Piece) → IsPiece p ↔ (IsWordPiece p ⊎ IsSpecialPiece p)

-- Each piece of a text is a token by itself.
abbrev pub PiecesStandAlone : Type 0
PiecesStandAlone = (bytes : List ℕ) (ps : List Piece) → HasPieces bytes ps → All IsPiece ps

-- Joined pieces are cut into these pieces again.
abbrev pub JoinedPiecesAreRead : Type 0
JoinedPiecesAreRead = (laid : List Laid) → All IsPiece (pieces laid) →
    pieces_of (join laid) ≡ Some (pieces laid)

-- No space is needed exactly where two pieces, one directly after the other, are cut into these two.
abbrev pub SpacesAreNeeded : Type 0
SpacesAreNeeded = (p next : Piece) → IsPiece p → IsPiece next →
    (needs_space p next ≡ false) ↔ (pieces_of (p.text ++ next.text) ≡ Some (p ∷ next ∷ []))
