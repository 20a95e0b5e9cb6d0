-- Lines: the values of a problem's variables, for a variant with a term before them.
use Rattle.std.specs.Prelude.{◌≡◌, ◌≤◌, true, List, [], ◌∷◌, ◌++◌, map, length, Contains, slice_index_or}
use Rattle.fvn_base.specs.Order.{IsBefore}
use Rattle.fvn_lex.specs.Join.{Laid, join}
use Rattle.fvn_terms.specs.declared.plain.Var.{Var}
use Rattle.fvn_terms.specs.declared.declarations.Declarations.{Declarations}
use Rattle.fvn_forms.specs.Flat.{FlatTerm}
use Rattle.fvn_flat.specs.Bindings.{Bindings, value}
use Rattle.fvn_syntax.specs.declared.names.Names.{Names}
use Rattle.fvn_syntax.specs.Pieces.{Text, word, comma, left_brace, right_brace}
use Rattle.fvn_syntax.specs.Raw.{spell}
use Rattle.fvn_problems.specs.Spelling.{RawPair, goes_to}
use Rattle.fvn_answer.specs.declared.numbering.TheConstants.{FEW_VARIABLES}
use Rattle.fvn_answer.specs.Numberings.{IsNumbering}
use Rattle.fvn_answer.specs.Writing.{close, sorted, written}

-- what is printed: a term alone, or the values of variables, or a term and the values of variables
pub data Shown : Type 0 where
  alone : FlatTerm → Shown
  values : List (Var × FlatTerm) → Shown
  variant : FlatTerm → List (Var × FlatTerm) → Shown

-- no byte of the line is a line feed
abbrev pub HasNoLineFeed : Text → Type 0
HasNoLineFeed line = Contains line 10 → ⊥

-- the forms of the values
abbrev pub forms_of : List (Var × FlatTerm) → List FlatTerm
forms_of bs = map (λ b. b.1) bs

-- all forms that are printed
abbrev pub forms_in : Shown → List FlatTerm
forms_in (alone t) = t ∷ []
forms_in (values bs) = forms_of bs
forms_in (variant t bs) = t ∷ forms_of bs

-- the values that pairs give variables; one without a pair stands for itself
abbrev pub values_of : Bindings → List Var → List (Var × FlatTerm)
values_of s vars = map (λ x. (x, value s x)) vars

-- the layout asks for a space before the first piece
abbrev pub after_space : List Laid → List Laid
after_space [] = []
after_space (l ∷ laid) = record { spaced = true; piece = l.piece } ∷ laid

-- the arrow, behind a space
abbrev pub arrow : Laid
arrow = record { spaced = true; piece = word goes_to }

-- VARIABLE --> TERM
abbrev pub laid_pair : RawPair → List Laid
laid_pair b = map close (spell b.left) ++ (arrow ∷ after_space (map close (spell b.right)))

-- bindings, with a comma before each, and then a space
abbrev pub laid_further : List RawPair → List Laid
laid_further [] = []
laid_further (b ∷ bs) = close comma ∷ after_space (laid_pair b) ++ laid_further bs

-- bindings, with a comma and a space between each two
abbrev pub laid_pairs : List RawPair → List Laid
laid_pairs [] = []
laid_pairs (b ∷ bs) = laid_pair b ++ laid_further bs

-- {VARIABLE --> TERM, VARIABLE --> TERM}
abbrev pub laid_bindings : List RawPair → List Laid
laid_bindings bs = close left_brace ∷ laid_pairs bs ++ (close right_brace ∷ [])

module _ (d : Declarations) (names : Names) (texts : List Text) where
  -- a problem's variable, whose name has its number in the list of texts
  abbrev pub asked_name : Var → Text
  asked_name x = slice_index_or texts x.name []

  module _ (order : List Var) where
    -- how a variable and its value are written
    abbrev pub written_pair : Var × FlatTerm → RawPair
    written_pair b = record {
      left = sorted d names (asked_name b.0) b.0.sort;
      right = written d names order b.1;
    }

    -- what is printed, as pieces with their layout
    abbrev pub laid : Shown → List Laid
    laid (alone t) = map close (spell (written d names order t))
    laid (values bs) = laid_bindings (map written_pair bs)
    laid (variant t bs) =
        map close (spell (written d names order t)) ++ after_space (laid_bindings (map written_pair bs))

    -- the text of what is printed
    abbrev pub text : Shown → Text
    text shown = join (laid shown)

  -- The text is that under some numbering; where it has few variables, no numbering gives a text before it.
  pub record IsTextOf (shown : Shown) (line : Text) : Type 0 where
    pub order : List Var
    pub numbering : IsNumbering (forms_in shown) order
    pub text_is : line ≡ text order shown
    pub least : length order ≤ FEW_VARIABLES → (other : List Var) →
        IsNumbering (forms_in shown) other → IsBefore (text other shown) line → ⊥
