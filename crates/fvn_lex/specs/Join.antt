-- Texts made of pieces: a space stands where two pieces would else be one token, or where the layout asks for it.
use Rattle.std.specs.Prelude.{ℕ, ◌≡◌, Bool, true, false, ◌||◌, List, [], ◌∷◌, ◌++◌, Some}
use Rattle.fvn_lex.specs.declared.token.Class.{Class}
use Rattle.fvn_lex.specs.declared.token.Class.TheVariants.{Word, Special, Dot}
use Rattle.fvn_lex.specs.Cut.{Piece, pieces_of}
use Rattle.fvn_lex.specs.Parts.{is_quoted_after}

-- a piece that is a token: its text is cut into it alone
unfoldable pub IsPiece : Piece → Type 0
IsPiece p = pieces_of p.text ≡ Some (p ∷ [])

-- Whether two pieces, one directly after the other, would be one token, by their classes and the first one's
-- text: two words would, and so would a word that ends with a backquote, and a special byte.
abbrev pub would_merge : Class → List ℕ → Class → Bool
would_merge Special text next = false
would_merge Word text Special = is_quoted_after false text
would_merge Word text Word = true
would_merge Word text Dot = true
would_merge Dot text Special = is_quoted_after false text
would_merge Dot text Word = true
would_merge Dot text Dot = true

-- two pieces between which a space must stand
unfoldable pub needs_space : Piece → Piece → Bool
needs_space p next = would_merge p.class p.text next.class

-- a piece, and whether the layout asks for a space before it
pub record Laid : Type 0 where
  pub spaced : Bool
  pub piece : Piece

-- the pieces alone
abbrev pub pieces : List Laid → List Piece
pieces [] = []
pieces (l ∷ laid) = l.piece ∷ pieces laid

-- the space between a piece and the next one
abbrev pub space : Bool → List ℕ
space true = 32 ∷ []
space false = []

-- the text of what follows a piece
unfoldable pub join_after : Piece → List Laid → List ℕ
join_after p [] = []
join_after p (l ∷ laid) = space (l.spaced || needs_space p l.piece) ++ (l.piece.text ++ join_after l.piece laid)

-- the text of pieces; before the first there is no space
unfoldable pub join : List Laid → List ℕ
join [] = []
join (l ∷ laid) = l.piece.text ++ join_after l.piece laid
