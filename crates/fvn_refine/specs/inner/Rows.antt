-- Rows: lists of sorts that stand beside a list of variables or of arguments.
use Rattle.std.specs.Prelude.{◌≡◌, ◌⊎◌, Bool, not, if◌then◌else◌, List, [], ◌∷◌, ◌++◌, length, Contains}
use Rattle.std.specs.List.{AllZip, filter, list_any}
use Rattle.fvn_terms.specs.declared.plain.Var.{Var}
use Rattle.fvn_terms.specs.declared.plain.SortId.{SortId}
use Rattle.fvn_terms.specs.declared.declarations.Declarations.{Declarations}
use Rattle.fvn_terms.specs.Substitution.{same_var}
use Rattle.fvn_terms.specs.Signature.{kind, IsSort, AtOrBelow}
use Rattle.fvn_forms.specs.SortOrder.{at_or_below}
use Rattle.fvn_forms.specs.Ranks.{pass_together}

-- sorts, one for each variable or argument
abbrev pub Row : Type 0
Row = List SortId

-- the sort that stands in the row beside the first place of y, or else this one
abbrev pub beside : List Var → Row → Var → SortId → SortId
beside [] ws y s = s
beside (x ∷ xs) [] y s = s
beside (x ∷ xs) (w ∷ ws) y s = if same_var x y then w else beside xs ws y s

-- the row with another sort beside the first place of y
abbrev pub placed : List Var → Row → Var → SortId → Row
placed [] ws y s = ws
placed (x ∷ xs) [] y s = []
placed (x ∷ xs) (w ∷ ws) y s = if same_var x y then s ∷ ws else w ∷ placed xs ws y s

module _ (d : Declarations) where
  -- the way of a row: a variable without a place has its kind
  abbrev pub way_of : List Var → Row → Var → SortId
  way_of xs ws y = beside xs ws y (kind d y.sort)

  -- the row has a sort of its kind for each variable
  abbrev pub IsRow : List Var → Row → Type 0
  IsRow xs ws = AllZip (λ x w. (IsSort d x.sort → IsSort d w) × (kind d w ≡ kind d x.sort)) xs ws

  -- at each place the sort is at or below that of the other row
  abbrev pub IsRowBelow : Row → Row → Type 0
  IsRowBelow = AllZip (AtOrBelow d)

  -- the test of it
  abbrev pub is_row_below : Row → Row → Bool
  is_row_below = pass_together (at_or_below d)

  -- one of the rows is at or above this one
  abbrev pub HasAbove : List Row → Row → Type 0
  HasAbove rows m = (r : Row) × (Contains rows r × IsRowBelow m r)

  -- no row is below another
  abbrev pub IsAntichain : List Row → Type 0
  IsAntichain rows = (r q : Row) → Contains rows r → Contains rows q → IsRowBelow r q → r ≡ q

  -- the rows with one more, but for those below another
  abbrev pub with_row : List Row → Row → List Row
  with_row rows row = if list_any (is_row_below row) rows then rows else filter (λ r. not (is_row_below r row)) rows ++ row ∷ []

  -- the rows with more of them, one after another
  abbrev pub with_rows : List Row → List Row → List Row
  with_rows rows [] = rows
  with_rows rows (row ∷ more) = with_rows (with_row rows row) more

  -- the rows with more of them, which are all where there were none
  abbrev pub AreJoined : List Row → List Row → List Row → Type 0
  AreJoined rows more all = (all ≡ with_rows rows more) ⊎ ((length rows ≡ 0) × (all ≡ more))
