-- The reading of a text byte by byte, as the code goes: from a place, each byte leads to the next or to a fault.
use Rattle.std.specs.Prelude.{ℕ, ◌≡◌, ◌⊎◌, ◌+◌, if◌then◌else◌, ◌==◌, List, [], ◌∷◌, ◌++◌, Ok, Err}
use Rattle.fvn_lex.specs.declared.token.Class.TheVariants.{Word, Special, Dot}
use Rattle.fvn_lex.specs.declared.token.Token.{Token}
use Rattle.fvn_lex.specs.declared.token.LexFault.{LexFault}
use Rattle.fvn_lex.specs.declared.token.LexFault.TheVariants.{BadByte, BlockComment, NoMemory}
use Rattle.fvn_lex.specs.declared.cut.Place.{Place}
use Rattle.fvn_lex.specs.declared.cut.Place.TheVariants.{Between, Comment, Inside}
use Rattle.fvn_lex.specs.Bytes.{is_blank, is_special, is_printed, is_backquote, goes_on, begins_comment, begins_block}
use Rattle.fvn_lex.specs.Spans.{Lexed, token}

-- what one byte does: the tokens that it completes, with the place after it, or a fault
pub data Move : Type 0 where
  Go : List Token → Place → Move
  Stop : LexFault → Move

-- these tokens, and then those of what follows
abbrev pub prepend : List Token → Lexed → Lexed
prepend made (Ok rest) = Ok (made ++ rest)
prepend made (Err fault) = Err fault

-- The byte b at the offset n, where a token would begin; `text` is b and all that follows it.
unfoldable pub begin : ℕ → ℕ → List ℕ → Move
begin n b text =
    -- white space is passed over
    if is_blank b then Go [] Between
    -- a special byte is a token by itself
    else if is_special b then Go (token n (n + 1) Special ∷ []) Between
    -- three dashes or stars directly before a parenthesis are refused
    else if begins_block text then Stop (BlockComment n)
    -- else they begin a comment
    else if begins_comment text then Go [] Comment
    -- any other printed byte begins a word, which so far is a Dot where the byte is `.`
    else if is_printed b then Go [] (Inside n (if b == 46 then Dot else Word) (is_backquote b))
    -- every other byte is refused
    else Stop (BadByte n)

-- the same moves after these tokens
abbrev pub after : List Token → Move → Move
after made (Go more next) = Go (made ++ more) next
after made (Stop fault) = Stop fault

-- The byte b at the offset n, where the reading stands at a place; `text` is b and all that follows it.
unfoldable pub advance : Place → ℕ → ℕ → List ℕ → Move
advance Between n b text = begin n b text
-- a comment runs to the next line feed, over any bytes
advance Comment n b text = Go [] (if b == 10 then Between else Comment)
-- a word takes every byte that goes on with it; any other byte ends it and is read as between tokens
advance (Inside start kind quoted) n b text =
    if goes_on quoted b then Go [] (Inside start Word (is_backquote b))
    else after (token start n kind ∷ []) (begin n b text)

-- The move leads on to the place `next`, and what it completes comes after the tokens made before.
abbrev pub LeadsTo : Move → List Token → List Token → Place → Type 0
LeadsTo (Go made place) before now next = (now ≡ before ++ made) × (next ≡ place)
LeadsTo (Stop fault) before now next = ⊥

-- the fault is the move's, or want of memory
abbrev pub StopsAt : Move → LexFault → Type 0
StopsAt move fault = (fault ≡ NoMemory) ⊎ (move ≡ Stop fault)

-- what the text's end completes
abbrev pub rest_of : Place → ℕ → List Token
rest_of Between n = []
rest_of Comment n = []
rest_of (Inside start kind quoted) n = token start n kind ∷ []

-- the tokens that a move completes, and then those that the reading from its place gives
abbrev pub follow : Move → (Place → Lexed) → Lexed
follow (Go made next) reading = prepend made (reading next)
follow (Stop fault) reading = Err fault

-- the reading of what is left of a text, from a place and an offset
unfoldable pub lex_from : Place → ℕ → List ℕ → Lexed
lex_from place n [] = Ok (rest_of place n)
lex_from place n (b ∷ rest) =
    follow (advance place n b (b ∷ rest)) (λ next. lex_from next (n + 1) rest)
