-- How weights of operators are spelled.
use Rattle.std.specs.Prelude.{◌≢◌, ℕ, ◌+◌, ◌-◌, ◌*◌, Bool, ◌&&◌, nat_le, IsTrue, List, [], ◌∷◌, ◌++◌, length, codes}
use Rattle.std.specs.List.{AllByRecursion, list_all}
use Rattle.fvn_lex.specs.Cut.{Piece}
use Rattle.fvn_lex.specs.Parts.{HasPieces}
use Rattle.fvn_syntax.specs.Pieces.{Text, word, comma, is_word}
use Rattle.fvn_weights_reading.specs.declared.entry.Entry.{Entry}
use Rattle.fvn_weights_reading.specs.declared.limits.TheConstants.{NUMBER_DIGITS}

-- a decimal digit
abbrev pub is_digit : ℕ → Bool
is_digit b = nat_le 48 b && nat_le b 57

-- a text that is as long as a number may be
abbrev pub is_short : Text → Bool
is_short w = nat_le 1 (length w) && nat_le (length w) NUMBER_DIGITS

-- the text of a number: one to nine decimal digits
abbrev pub is_number_text : Text → Bool
is_number_text w = is_short w && list_all is_digit w

-- a number
abbrev pub is_number : Piece → Bool
is_number p = is_word p && is_number_text p.text

-- the number that goes on with these digits
abbrev pub number_after : ℕ → Text → ℕ
number_after n [] = n
number_after n (b ∷ w) = number_after (10 * n + (b - 48)) w

-- the number that digits write
abbrev pub number : Text → ℕ
number w = number_after 0 w

-- the word between a name and its numbers
abbrev pub colon : Piece
colon = word (codes ":")

-- NAME : NUMBER NUMBER
abbrev pub spell_entry : Entry → List Piece
spell_entry e = word e.name ∷ colon ∷ e.numbers

-- entries, with a comma before each
abbrev pub spell_further : List Entry → List Piece
spell_further [] = []
spell_further (e ∷ es) = comma ∷ spell_entry e ++ spell_further es

-- entries, with a comma between each two
abbrev pub spell_entries : List Entry → List Piece
spell_entries [] = []
spell_entries (e ∷ es) = spell_entry e ++ spell_further es

-- an entry has one or more numbers, and nothing else
pub record IsEntry (e : Entry) : Type 0 where
  pub some : e.numbers ≢ []
  pub numbers : AllByRecursion (λ p. IsTrue (is_number p)) e.numbers

-- no name is written twice
abbrev pub AreOnce : List Entry → Type 0
AreOnce [] = Unit {0}
AreOnce (e ∷ es) = AllByRecursion (λ f. f.name ≢ e.name) es × AreOnce es

-- the bytes are these entries, of which no two have one name
pub record IsWeightText (bytes : Text) (es : List Entry) : Type 0 where
  pub entries : AllByRecursion IsEntry es
  pub spelled : HasPieces bytes (spell_entries es)
  pub once : AreOnce es
