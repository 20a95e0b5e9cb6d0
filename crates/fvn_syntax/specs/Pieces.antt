-- Pieces of texts: words, special bytes and the dot, and tests of single pieces.
use Rattle.std.specs.Prelude.{ℕ, Bool, true, false, ◌&&◌, ◌==◌, ◌-◌, List, length, take, slice_index_or, nat_lt, codes}
use Rattle.std.specs.Str.{bytes_eq}
use Rattle.fvn_lex.specs.declared.token.Class.{Class}
use Rattle.fvn_lex.specs.declared.token.Class.TheVariants.{Word, Special, Dot}
use Rattle.fvn_lex.specs.Cut.{Piece}

-- a text is a list of bytes
abbrev pub Text : Type 0
Text = List ℕ

-- a name or a keyword
abbrev pub word : Text → Piece
word text = record { class = Word; text = text }

-- a special byte
abbrev pub special : Text → Piece
special text = record { class = Special; text = text }

-- the special byte that opens a parenthesis
abbrev pub left_paren : Piece
left_paren = special (codes "(")

-- the special byte that closes a parenthesis
abbrev pub right_paren : Piece
right_paren = special (codes ")")

-- the special byte that opens a bracket
abbrev pub left_bracket : Piece
left_bracket = special (codes "[")

-- the special byte that closes a bracket
abbrev pub right_bracket : Piece
right_bracket = special (codes "]")

-- the special byte that opens a brace
abbrev pub left_brace : Piece
left_brace = special (codes "{")

-- the special byte that closes a brace
abbrev pub right_brace : Piece
right_brace = special (codes "}")

-- the special byte between arguments, and between the sorts in a bracket
abbrev pub comma : Piece
comma = special (codes ",")

-- the word `.` alone
abbrev pub dot : Piece
dot = record { class = Dot; text = codes "." }

-- the class of words
abbrev pub is_word_class : Class → Bool
is_word_class Word = true
is_word_class Special = false
is_word_class Dot = false

-- the class of special bytes
abbrev pub is_special_class : Class → Bool
is_special_class Word = false
is_special_class Special = true
is_special_class Dot = false

-- the class of the dot
abbrev pub is_dot_class : Class → Bool
is_dot_class Word = false
is_dot_class Special = false
is_dot_class Dot = true

-- a word of any text
abbrev pub is_word : Piece → Bool
is_word p = is_word_class p.class

-- the word of this text
abbrev pub is_name : Text → Piece → Bool
is_name text p = is_word_class p.class && bytes_eq p.text text

-- the special byte of this text
abbrev pub is_special : Text → Piece → Bool
is_special text p = is_special_class p.class && bytes_eq p.text text

-- the dot
abbrev pub is_dot : Piece → Bool
is_dot p = is_dot_class p.class

-- a text that ends with a colon and has a byte before it
abbrev pub is_colon_name : Text → Bool
is_colon_name w = nat_lt 1 (length w) && (slice_index_or w (length w - 1) 0 == 58)

-- the text without its last byte
abbrev pub without_last : Text → Text
without_last w = take (length w - 1) w

-- a text that begins with `#`, as the program's own variables do
abbrev pub is_reserved : Text → Bool
is_reserved w = nat_lt 0 (length w) && (slice_index_or w 0 0 == 35)
