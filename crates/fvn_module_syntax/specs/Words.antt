-- Tests of single words and rows of tokens that forms of statements speak of.
use Rattle.std.specs.Prelude.{ℕ, ◌≡◌, ◌&&◌, ◌==◌, ◌+◌, ◌-◌, not, Bool, true, false, if◌then◌else◌, List, [], ◌∷◌, length, slice_index_or, codes}
use Rattle.std.specs.List.{list_any, AllByRecursion}
use Rattle.std.specs.Str.{bytes_eq}
use Rattle.fvn_lex.specs.Cut.{Piece}
use Rattle.fvn_syntax.specs.Pieces.{Text, is_word, is_special, is_dot}
use Rattle.fvn_module_syntax.specs.declared.statement.OperatorName.{OperatorName}
use Rattle.fvn_module_syntax.specs.declared.statement.OperatorName.TheVariants.{Single, Round}

-- the dot that ends a statement
abbrev pub is_stop : Piece → Bool
is_stop p = is_dot p && bytes_eq p.text (codes ".")

-- no piece passes the test
abbrev pub HasNo : (Piece → Bool) → List Piece → Type 0
HasNo test ps = AllByRecursion (λ p. test p ≡ false) ps

-- the byte of a colon
abbrev pub is_colon : ℕ → Bool
is_colon b = b == 58

-- whether a text holds a colon
abbrev pub has_colon : Text → Bool
has_colon w = list_any is_colon w

-- a text that begins with an underscore
abbrev pub begins_with_underscore : Text → Bool
begins_with_underscore w = not (length w == 0) && (slice_index_or w 0 0 == 95)

-- a text that ends with an underscore
abbrev pub ends_with_underscore : Text → Bool
ends_with_underscore w = not (length w == 0) && (slice_index_or w (length w - 1) 0 == 95)

-- whether two pieces are words that do not touch at an underscore
abbrev pub are_apart : Piece → Piece → Bool
are_apart p q = is_word p && is_word q && not (ends_with_underscore p.text) && not (begins_with_underscore q.text)

-- whether each piece touches the one before it
abbrev pub touch_after : Piece → List Piece → Bool
touch_after p [] = true
touch_after p (q ∷ ps) = if are_apart p q then false else touch_after q ps

-- whether any two words that stand side by side touch at an underscore
abbrev pub touch : List Piece → Bool
touch [] = true
touch (p ∷ ps) = touch_after p ps

-- how many parentheses are open behind a piece
abbrev pub depth_behind : ℕ → Piece → ℕ
depth_behind n p =
    if is_special (codes ")") p then n - 1
    else if is_special (codes "(") p then n + 1 else n

-- whether the words of a name touch at underscores
abbrev pub names_touch : OperatorName → Bool
names_touch (Single w) = true
names_touch (Round ps) = touch ps
