-- Rows of pieces that are cut into terms and pairs.
use Rattle.std.specs.Prelude.{◌≡◌, Bool, true, false, ◌&&◌, not, length, ◌==◌, List, [], ◌∷◌, ◌++◌, map, codes}
use Rattle.std.specs.Str.{bytes_eq}
use Rattle.std.specs.List.{AllByRecursion}
use Rattle.fvn_lex.specs.Cut.{Piece}
use Rattle.fvn_syntax.specs.Pieces.{Text, is_word, is_special, is_dot}
use Rattle.fvn_syntax.specs.Raw.{RawTerm, spell, IsWritten, EndsBefore, IsTermBefore}
use Rattle.fvn_problems.specs.declared.split.Halves.{Halves}
use Rattle.fvn_problems.specs.Spelling.{RawQuery, RawPair, RawProblem, spell_query, spell_pair, spell_further, spell_pairs, spell_problem, spell_bindings, pairs_in, IsWrittenPair, IsWrittenBinding}

-- the dot
abbrev pub is_full_stop : Piece → Bool
is_full_stop p = is_dot p && bytes_eq p.text (codes ".")

-- nothing, or a dot alone
abbrev pub is_end : List Piece → Bool
is_end [] = true
is_end (p ∷ ps) = (length ps == 0) && is_full_stop p

-- these pieces begin with a parenthesis
abbrev pub opens : List Piece → Bool
opens [] = false
opens (p ∷ ps) = is_special (codes "(") p

-- these pieces of a term are a name alone, or a variable of a kind
abbrev pub is_alone : List Piece → Bool
is_alone [] = false
is_alone (p ∷ ps) = is_word p && not (opens ps)

-- the row does not begin with this piece
abbrev pub BeginsNotWith : Piece → List Piece → Type 0
BeginsNotWith p row = (rest : List Piece) → row ≡ p ∷ rest → ⊥

-- a piece between terms opens neither a parenthesis nor a bracket
pub record IsBetween (p : Piece) : Type 0 where
  pub no_paren : is_special (codes "(") p ≡ false
  pub no_bracket : is_special (codes "[") p ≡ false

-- pairs end before these pieces: a term does, and no further pair follows
pub record Closes (separator : Piece) (rest : List Piece) : Type 0 where
  pub ends : (t : RawTerm) → EndsBefore rest t
  pub last : BeginsNotWith separator rest

-- the row is a term and then the rest
pub record IsTermSplit (row front rest : List Piece) : Type 0 where
  pub term : RawTerm
  pub written : IsWritten term
  pub ends : EndsBefore rest term
  pub front_is : front ≡ spell term
  pub spelled : row ≡ spell term ++ rest

-- the pieces of both terms of a pair
abbrev pub halves_of : RawPair → Halves
halves_of p = record { left = spell p.left; right = spell p.right }

-- each half is a term alone
abbrev pub AreTerms : Halves → Type 0
AreTerms h = IsTermBefore [] h.left × IsTermBefore [] h.right

-- the row is a pair with these halves and then the rest
pub record IsPairSplit (between : Text) (row : List Piece) (h : Halves) (rest : List Piece) : Type 0 where
  pub raw : RawPair
  pub written : IsWrittenPair raw
  pub ends : EndsBefore rest raw.right
  pub halves : h ≡ halves_of raw
  pub spelled : row ≡ spell_pair between raw ++ rest

-- the row begins with no pair
abbrev pub BeginsWithNoPair : (between : Text) → List Piece → Type 0
BeginsWithNoPair between row =
    (p : RawPair) (rest : List Piece) → IsWrittenPair p → EndsBefore rest p.right → row ≡ spell_pair between p ++ rest → ⊥

module _ (between : Text) (separator : Piece) (row : List Piece) where
  -- these halves are those of the first pairs of the row, and then the rest
  pub record IsFront (list : List Halves) (rest : List Piece) : Type 0 where
    pub first : RawPair
    pub others : List RawPair
    pub written : AllByRecursion IsWrittenPair (first ∷ others)
    pub halves : list ≡ map halves_of (first ∷ others)
    pub spelled : row ≡ spell_pairs between separator (first ∷ others) ++ rest

  -- the row is one or more pairs and then this end
  pub record ArePairsBefore (end : List Piece) : Type 0 where
    pub first : RawPair
    pub others : List RawPair
    pub written : AllByRecursion IsWrittenPair (first ∷ others)
    pub closes : Closes separator end
    pub spelled : row ≡ spell_pairs between separator (first ∷ others) ++ end

  -- the rest is what remains of any pairs that the row is
  abbrev pub Decides : List Piece → Type 0
  Decides rest = (end : List Piece) → ArePairsBefore end →
      (more : List RawPair) × (AllByRecursion IsWrittenPair more × (rest ≡ spell_further between separator more ++ end))

  -- the halves of all pairs with which the row begins, and then the rest
  pub record ArePairsSplit (list : List Halves) (rest : List Piece) : Type 0 where
    pub front : IsFront list rest
    pub only : (end : List Piece) → ArePairsBefore end → rest ≡ end

  -- the row begins with no pairs
  abbrev pub BeginsWithNoPairs : Type 0
  BeginsWithNoPairs = (end : List Piece) → ArePairsBefore end → ⊥

-- the row is this term text
pub record IsQueryRow (row : List Piece) (q : RawQuery) : Type 0 where
  pub written : IsWritten q.term
  pub spelled : row ≡ spell_query q

-- the front is the term of the term text that the row is
pub record IsQuerySplit (row front : List Piece) : Type 0 where
  pub raw : RawQuery
  pub is : IsQueryRow row raw
  pub front_is : front ≡ spell raw.term

-- the row is this problem
pub record IsProblemRow (row : List Piece) (p : RawProblem) : Type 0 where
  pub written : AllByRecursion IsWrittenPair (pairs_in p)
  pub spelled : row ≡ spell_problem p

-- the halves are those of the pairs of the problem that the row is
pub record IsProblemSplit (row : List Piece) (list : List Halves) : Type 0 where
  pub raw : RawProblem
  pub is : IsProblemRow row raw
  pub halves : list ≡ map halves_of (pairs_in raw)

-- the row is these bindings
pub record IsBindingRow (row : List Piece) (bs : List RawPair) : Type 0 where
  pub written : AllByRecursion IsWrittenBinding bs
  pub spelled : row ≡ spell_bindings bs

-- the halves are those of the bindings that the row is
pub record IsBindingSplit (row : List Piece) (list : List Halves) : Type 0 where
  pub raw : List RawPair
  pub is : IsBindingRow row raw
  pub halves : list ≡ map halves_of raw
