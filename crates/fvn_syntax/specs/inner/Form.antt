-- The reader of the form of a term, piece by piece, with the parentheses that are open.
use Rattle.std.specs.Prelude.{Bool, true, false, ◌&&◌, if◌then◌else◌, List, [], ◌∷◌, reverse, Option, Some, None, codes}
use Rattle.fvn_lex.specs.Cut.{Piece}
use Rattle.fvn_syntax.specs.declared.form.Mark.{Mark}
use Rattle.fvn_syntax.specs.declared.form.Mark.TheVariants.{Round, Call}
use Rattle.fvn_syntax.specs.declared.form.Spot.{Spot}
use Rattle.fvn_syntax.specs.declared.form.Spot.TheVariants.{Wanted, Named, SortWanted, SortNamed, Whole}
use Rattle.fvn_syntax.specs.declared.form.Move.{Move}
use Rattle.fvn_syntax.specs.declared.form.Move.TheVariants.{On, End, Bad}
use Rattle.fvn_syntax.specs.Pieces.{is_word, is_special, is_colon_name}

-- what a piece does: the reading goes on, or the term ended before it, or there is no term
pub data Step : Type 0 where
  Goes : List Mark → Spot → Step
  Ends : Step
  Stops : Step

-- the move of the program as a step
abbrev pub view : Move → Step
view (On f) = Goes (reverse f.marks.items) f.spot
view End = Ends
view Bad = Stops

-- a piece behind a whole term
abbrev pub behind : Piece → List Mark → Step
behind p [] = Ends
behind p (Round ∷ ms) = if is_special (codes ")") p then Goes ms Whole else Stops
behind p (Call ∷ ms) =
    if is_special (codes ",") p then Goes (Call ∷ ms) Wanted
    else if is_special (codes ")") p then Goes ms Whole
    else Stops

-- one more piece
abbrev pub step : List Mark → Piece → Spot → Step
step ms p Wanted =
    if is_special (codes "(") p then Goes (Round ∷ ms) Wanted
    else if is_word p then Goes ms (Named (is_colon_name p.text))
    else Stops
step ms p (Named colon) =
    if is_special (codes "(") p then Goes (Call ∷ ms) Wanted
    else if colon && is_special (codes "[") p then Goes ms SortWanted
    else behind p ms
step ms p SortWanted = if is_word p then Goes ms SortNamed else Stops
step ms p SortNamed =
    if is_special (codes ",") p then Goes ms SortWanted
    else if is_special (codes "]") p then Goes ms Whole
    else Stops
step ms p Whole = behind p ms

-- whether a term may end after what was read last
abbrev pub is_whole : Spot → Bool
is_whole Wanted = false
is_whole (Named colon) = true
is_whole SortWanted = false
is_whole SortNamed = false
is_whole Whole = true

-- whether nothing is open
abbrev pub is_closed : List Mark → Bool
is_closed [] = true
is_closed (m ∷ ms) = false

-- goes on from these pieces as the step tells
abbrev pub follow : List Piece → Step → (List Mark → Spot → Option (List Piece)) → Option (List Piece)
follow ps (Goes ms spot) next = next ms spot
follow ps Ends next = Some ps
follow ps Stops next = None

-- what is left behind the term, where there is one
unfoldable pub left_behind : List Mark → Spot → List Piece → Option (List Piece)
left_behind ms spot [] = if is_closed ms && is_whole spot then Some [] else None
left_behind ms spot (p ∷ ps) = follow (p ∷ ps) (step ms p spot) (λ next at. left_behind next at ps)

-- what is left behind the term with which these pieces begin, where they begin with one
abbrev pub behind_term : List Piece → Option (List Piece)
behind_term ps = left_behind [] Wanted ps
