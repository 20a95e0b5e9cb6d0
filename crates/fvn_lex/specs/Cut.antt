-- The tokens of a text, as they are computed, and their pieces.
use Rattle.std.specs.Prelude.{ℕ, List, map, Ok, Err, Option, Some, None}
use Rattle.std.specs.List.{slice_range}
use Rattle.fvn_lex.specs.declared.token.Class.{Class}
use Rattle.fvn_lex.specs.declared.token.Token.{Token}
use Rattle.fvn_lex.specs.declared.cut.Place.TheVariants.{Between}
use Rattle.fvn_lex.specs.Spans.{Lexed}
use Rattle.fvn_lex.specs.inner.Machine.{lex_from}

-- the tokens of a text, or its first fault
unfoldable pub lex : List ℕ → Lexed
lex bytes = lex_from Between 0 bytes

-- a token without its place: what kind it is, and its text
pub record Piece : Type 0 where
  pub class : Class
  pub text : List ℕ

-- the token's piece: its text is its slice of the bytes
abbrev pub piece_at : List ℕ → Token → Piece
piece_at bytes t = record { class = t.class; text = slice_range bytes t.start t.end }

-- the pieces of what was read
abbrev pub pieces_in : List ℕ → Lexed → Option (List Piece)
pieces_in bytes (Ok list) = Some (map (piece_at bytes) list)
pieces_in bytes (Err fault) = None

-- the classes and texts of a text's tokens, or none at a fault
unfoldable pub pieces_of : List ℕ → Option (List Piece)
pieces_of bytes = pieces_in bytes (lex bytes)
