-- How problems, term texts and binding texts are spelled.
use Rattle.std.specs.Prelude.{Bool, if◌then◌else◌, List, [], ◌∷◌, ◌++◌, codes}
use Rattle.std.specs.List.{AllByRecursion}
use Rattle.fvn_lex.specs.Cut.{Piece}
use Rattle.fvn_lex.specs.Parts.{HasPieces}
use Rattle.fvn_syntax.specs.Pieces.{Text, word, comma, dot, left_brace, right_brace}
use Rattle.fvn_syntax.specs.Raw.{RawTerm, name, call, round, kind_variable, spell, IsWritten}

-- a dot or nothing
abbrev pub ending : (dotted : Bool) → List Piece
ending dotted = if dotted then dot ∷ [] else []

-- a term, with or without a dot behind it
pub record RawQuery : Type 0 where
  pub term : RawTerm
  pub dotted : Bool

-- TERM or TERM .
abbrev pub spell_query : RawQuery → List Piece
spell_query q = spell q.term ++ ending q.dotted

-- two terms: the sides of an equation that is to be solved, or a variable and the term that it is bound to
pub record RawPair : Type 0 where
  pub left : RawTerm
  pub right : RawTerm

-- the two terms with a word between
abbrev pub spell_pair : (between : Text) → RawPair → List Piece
spell_pair between p = spell p.left ++ (word between ∷ spell p.right)

module _ (between : Text) (separator : Piece) where
  -- pairs, with a separator before each
  abbrev pub spell_further : List RawPair → List Piece
  spell_further [] = []
  spell_further (p ∷ ps) = separator ∷ spell_pair between p ++ spell_further ps

  -- pairs, with a separator between each two
  abbrev pub spell_pairs : List RawPair → List Piece
  spell_pairs [] = []
  spell_pairs (p ∷ ps) = spell_pair between p ++ spell_further ps

-- one or more pairs, with or without a dot behind them
pub record RawProblem : Type 0 where
  pub first : RawPair
  pub others : List RawPair
  pub dotted : Bool

-- the pairs from left to right
abbrev pub pairs_in : RawProblem → List RawPair
pairs_in p = p.first ∷ p.others

-- the word between the sides of a problem's pair
abbrev pub equals : Text
equals = codes "=?"

-- the word between a variable and its term
abbrev pub goes_to : Text
goes_to = codes "-->"

-- the word between the pairs of a problem
abbrev pub conjunction : Piece
conjunction = word (codes "/\\")

-- TERM =? TERM /\ TERM =? TERM, or the same with a dot behind it
abbrev pub spell_problem : RawProblem → List Piece
spell_problem p = spell_pairs equals conjunction (pairs_in p) ++ ending p.dotted

-- { VARIABLE --> TERM , VARIABLE --> TERM }, without a dot
abbrev pub spell_bindings : List RawPair → List Piece
spell_bindings bs = left_brace ∷ spell_pairs goes_to comma bs ++ (right_brace ∷ [])

-- both terms can be written
abbrev pub IsWrittenPair : RawPair → Type 0
IsWrittenPair p = IsWritten p.left × IsWritten p.right

-- a name alone, or a variable of a kind
abbrev pub IsAlone : RawTerm → Type 0
IsAlone (name w) = Unit {0}
IsAlone (call w ts) = ⊥
IsAlone (round t) = ⊥
IsAlone (kind_variable x s ss) = Unit {0}

-- a variable and a term that can be written
abbrev pub IsWrittenBinding : RawPair → Type 0
IsWrittenBinding b = IsAlone b.left × IsWrittenPair b

-- the bytes are this term
pub record IsQueryText (bytes : Text) (q : RawQuery) : Type 0 where
  pub written : IsWritten q.term
  pub spelled : HasPieces bytes (spell_query q)

-- the bytes are this problem
pub record IsProblemText (bytes : Text) (p : RawProblem) : Type 0 where
  pub written : AllByRecursion IsWrittenPair (pairs_in p)
  pub spelled : HasPieces bytes (spell_problem p)

-- the bytes are these bindings
pub record IsBindingText (bytes : Text) (bs : List RawPair) : Type 0 where
  pub written : AllByRecursion IsWrittenBinding bs
  pub spelled : HasPieces bytes (spell_bindings bs)
