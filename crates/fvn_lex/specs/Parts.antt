-- A text as a row of parts: white space, comments and tokens, each as long as it can be.
use Rattle.std.specs.Prelude.{ℕ, ◌≡◌, ◌≢◌, ◌+◌, ◌==◌, Bool, true, false, not, ◌&&◌, if◌then◌else◌, IsTrue, IsFalse, List, [], ◌∷◌, ◌++◌, length}
use Rattle.fvn_lex.specs.declared.token.Class.{Class}
use Rattle.fvn_lex.specs.declared.token.Class.TheVariants.{Word, Special, Dot}
use Rattle.fvn_lex.specs.declared.token.Token.{Token}
use Rattle.fvn_lex.specs.declared.token.LexFault.{LexFault}
use Rattle.fvn_lex.specs.declared.token.LexFault.TheVariants.{BadByte, BlockComment, NoMemory}
use Rattle.fvn_lex.specs.Bytes.{is_blank, is_special, is_printed, is_backquote, goes_on, begins_comment, begins_block}
use Rattle.fvn_lex.specs.Cut.{Piece}
use Rattle.fvn_lex.specs.Spans.{token}

-- Words.

-- each byte of the text goes on with a word, from a word whose last byte is a backquote, or is not
abbrev pub goes_through : (quoted : Bool) → List ℕ → Bool
goes_through quoted [] = true
goes_through quoted (b ∷ text) = goes_on quoted b && goes_through (is_backquote b) text

-- whether the last byte is a backquote, after a word for which it is known
abbrev pub is_quoted_after : (quoted : Bool) → List ℕ → Bool
is_quoted_after quoted [] = quoted
is_quoted_after quoted (b ∷ text) = is_quoted_after (is_backquote b) text

-- a word ends here: there is no further byte, or it is one that does not go on with the word
abbrev pub stops : (quoted : Bool) → List ℕ → Bool
stops quoted [] = true
stops quoted (b ∷ rest) = not (goes_on quoted b)

-- the class of a word: Dot where it is the single byte `.`
abbrev pub class_of : List ℕ → Class
class_of [] = Word
class_of (b ∷ []) = if b == 46 then Dot else Word
class_of (b ∷ c ∷ text) = Word

-- One byte or more between 33 and 126, the special ones only directly after a backquote, of which the first
-- do not begin a comment; and the class is the word's.
pub record IsWordPiece (p : Piece) : Type 0 where
  pub some : p.text ≢ []
  pub printed : IsTrue (goes_through false p.text)
  pub no_comment : IsFalse (begins_comment p.text)
  pub class : p.class ≡ class_of p.text

-- One of the special bytes.
pub record IsSpecialPiece (p : Piece) : Type 0 where
  pub byte : ℕ
  pub text : p.text ≡ byte ∷ []
  pub special : IsTrue (is_special byte)
  pub class : p.class ≡ Special

-- a text of one line: no byte of it is a line feed
abbrev pub is_one_line : List ℕ → Bool
is_one_line [] = true
is_one_line (b ∷ text) = not (b == 10) && is_one_line text

-- a line ends here: there is no further byte, or it is a line feed
abbrev pub ends_line : List ℕ → Bool
ends_line [] = true
ends_line (b ∷ rest) = b == 10

-- Parts.

-- a byte of white space, a comment, or a token
pub data Part : Type 0 where
  White : ℕ → Part
  Remark : List ℕ → Part
  Item : Piece → Part

-- the bytes of a part
abbrev pub bytes_of : Part → List ℕ
bytes_of (White b) = b ∷ []
bytes_of (Remark text) = text
bytes_of (Item p) = p.text

-- three dashes or stars, no parenthesis directly after them, and all that follows in the line
pub record IsRemark (text rest : List ℕ) : Type 0 where
  pub begins : IsTrue (begins_comment text)
  pub no_block : IsFalse (begins_block text)
  pub one_line : IsTrue (is_one_line text)
  pub longest : IsTrue (ends_line rest)

-- A special byte, or a word that is as long as it can be.
pub data IsItem (p : Piece) (rest : List ℕ) : Type 0 where
  Single : IsSpecialPiece p → IsItem p rest
  Longest : IsWordPiece p → IsTrue (stops (is_quoted_after false p.text) rest) → IsItem p rest

-- what a part is, where `rest` are the bytes after it
abbrev pub IsPart : Part → List ℕ → Type 0
IsPart (White b) rest = IsTrue (is_blank b)
IsPart (Remark text) rest = IsRemark text rest
IsPart (Item p) rest = IsItem p rest

-- the bytes of a row of parts
abbrev pub row_bytes : List Part → List ℕ
row_bytes [] = []
row_bytes (part ∷ parts) = bytes_of part ++ row_bytes parts

-- each part of a row is one, where `rest` are the bytes after the row
abbrev pub AreParts : List Part → List ℕ → Type 0
AreParts [] rest = Unit {0}
AreParts (part ∷ parts) rest = IsPart part (row_bytes parts ++ rest) × AreParts parts rest

-- the tokens of a row that begins at the offset n: each spans the bytes of its part
abbrev pub row_tokens : ℕ → List Part → List Token
row_tokens n [] = []
row_tokens n (White b ∷ parts) = row_tokens (n + 1) parts
row_tokens n (Remark text ∷ parts) = row_tokens (n + length text) parts
row_tokens n (Item p ∷ parts) = token n (n + length p.text) p.class ∷ row_tokens (n + length p.text) parts

-- the pieces of a row's tokens
abbrev pub row_pieces : List Part → List Piece
row_pieces [] = []
row_pieces (White b ∷ parts) = row_pieces parts
row_pieces (Remark text ∷ parts) = row_pieces parts
row_pieces (Item p ∷ parts) = p ∷ row_pieces parts

-- The text is a row of parts, and these are the row's tokens.
pub record IsCutInto (bytes : List ℕ) (list : List Token) : Type 0 where
  pub parts : List Part
  pub row : bytes ≡ row_bytes parts
  pub fit : AreParts parts []
  pub tokens : list ≡ row_tokens 0 parts

-- The text is a row of parts, and these are the pieces of the row's tokens.
pub record HasPieces (bytes : List ℕ) (ps : List Piece) : Type 0 where
  pub parts : List Part
  pub row : bytes ≡ row_bytes parts
  pub fit : AreParts parts []
  pub pieces : row_pieces parts ≡ ps

-- the first byte is neither white space nor printed
abbrev pub begins_bad : List ℕ → Bool
begins_bad [] = false
begins_bad (b ∷ rest) = not (is_blank b) && not (is_printed b)

-- The text is a row of parts up to the offset n, and what is left there passes the test.
pub record IsRowUpTo (test : List ℕ → Bool) (bytes : List ℕ) (n : ℕ) : Type 0 where
  pub parts : List Part
  pub left : List ℕ
  pub row : bytes ≡ row_bytes parts ++ left
  pub fit : AreParts parts left
  pub offset : n ≡ length (row_bytes parts)
  pub passes : IsTrue (test left)

-- The fault is the first one: all bytes before it are those of parts.
abbrev pub IsFirstFault : List ℕ → LexFault → Type 0
IsFirstFault bytes (BadByte n) = IsRowUpTo begins_bad bytes n
IsFirstFault bytes (BlockComment n) = IsRowUpTo begins_block bytes n
IsFirstFault bytes NoMemory = ⊥
