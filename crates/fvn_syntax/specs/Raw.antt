-- Sorts and terms as they are written, and their spelling.
use Rattle.std.specs.Prelude.{◌≡◌, true, false, List, [], ◌∷◌, ◌++◌, codes}
use Rattle.fvn_lex.specs.Cut.{Piece}
use Rattle.fvn_syntax.specs.Pieces.{Text, word, left_paren, right_paren, left_bracket, right_bracket, comma, is_special, is_colon_name}
use Rattle.fvn_syntax.specs.declared.sorts.RawSort.{RawSort}
use Rattle.fvn_syntax.specs.declared.sorts.RawSort.TheVariants.{Name, Kind}

-- , B , C ]
abbrev pub spell_others : List Text → List Piece
spell_others [] = right_bracket ∷ []
spell_others (s ∷ ss) = comma ∷ word s ∷ spell_others ss

-- A, or [ A , B , C ]
abbrev pub spell_sort : RawSort → List Piece
spell_sort (Name s) = word s ∷ []
spell_sort (Kind s ss) = left_bracket ∷ word s ∷ spell_others ss

mutual
  -- A written term: a name, an operator with arguments in parentheses, a term in parentheses, or a variable of
  -- a kind, X:[A,B], whose name is written with its colon.
  pub data RawTerm : Type 0 where
    name : Text → RawTerm
    call : Text → RawTerms → RawTerm
    round : RawTerm → RawTerm
    kind_variable : Text → (first : Text) → (others : List Text) → RawTerm

  -- one or more written terms
  pub data RawTerms : Type 0 where
    last : RawTerm → RawTerms
    and : RawTerm → RawTerms → RawTerms

-- commas stand between arguments
abbrev mutual
  pub spell : RawTerm → List Piece
  spell (name w) = word w ∷ []
  spell (call w ts) = word w ∷ left_paren ∷ spell_all ts ++ (right_paren ∷ [])
  spell (round t) = left_paren ∷ spell t ++ (right_paren ∷ [])
  spell (kind_variable x s ss) = word x ∷ left_bracket ∷ word s ∷ spell_others ss

  -- the pieces of the arguments, with a comma between each two
  pub spell_all : RawTerms → List Piece
  spell_all (last t) = spell t
  spell_all (and t ts) = spell t ++ (comma ∷ spell_all ts)

-- the name of each variable of a kind ends with a colon, and has a byte before it
abbrev mutual
  pub IsWritten : RawTerm → Type 0
  IsWritten (name w) = Unit {0}
  IsWritten (call w ts) = AreWritten ts
  IsWritten (round t) = IsWritten t
  IsWritten (kind_variable x s ss) = is_colon_name x ≡ true

  -- so it is in each of these terms
  pub AreWritten : RawTerms → Type 0
  AreWritten (last t) = IsWritten t
  AreWritten (and t ts) = IsWritten t × AreWritten ts

-- these pieces do not begin with this special byte
abbrev pub BeginsNot : (byte : Text) → List Piece → Type 0
BeginsNot byte [] = Unit {0}
BeginsNot byte (p ∷ ps) = is_special byte p ≡ false

-- A term ends before these pieces: after a name no parenthesis opens, and after a name that ends with a colon
-- no bracket does.
abbrev pub EndsBefore : List Piece → RawTerm → Type 0
EndsBefore rest (name w) = BeginsNot (codes "(") rest × (is_colon_name w ≡ true → BeginsNot (codes "[") rest)
EndsBefore rest (call w ts) = Unit {0}
EndsBefore rest (round t) = Unit {0}
EndsBefore rest (kind_variable x s ss) = Unit {0}

-- these pieces are a term and then the rest
pub record IsTermBefore (rest ps : List Piece) : Type 0 where
  pub term : RawTerm
  pub written : IsWritten term
  pub ends : EndsBefore rest term
  pub spelled : ps ≡ spell term ++ rest

-- where these pieces begin with a term, the rest is left behind it
abbrev pub LeavesOnly : (rest ps : List Piece) → Type 0
LeavesOnly rest ps = (other : List Piece) → IsTermBefore other ps → other ≡ rest

-- these pieces begin with no term
abbrev pub BeginsWithNoTerm : List Piece → Type 0
BeginsWithNoTerm ps = (rest : List Piece) → IsTermBefore rest ps → ⊥
