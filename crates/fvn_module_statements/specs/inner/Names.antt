-- How the reader goes over names of sorts, operators and variables.
use Rattle.std.specs.Prelude.{ℕ, ◌&&◌, ◌==◌, not, Bool, true, false, if◌then◌else◌, List, [], ◌∷◌, Option, Some, None, codes}
use Rattle.fvn_lex.specs.Cut.{Piece}
use Rattle.fvn_syntax.specs.Pieces.{Text, is_word, is_name, is_special}
use Rattle.fvn_syntax.specs.declared.sorts.RawSort.{RawSort}
use Rattle.fvn_module_syntax.specs.declared.statement.OperatorName.{OperatorName}
use Rattle.fvn_module_syntax.specs.declared.statement.OperatorName.TheVariants.{Single, Round}
use Rattle.fvn_module_syntax.specs.Words.{has_colon, depth_behind}
use Rattle.fvn_module_statements.specs.inner.Gather.{bind, gather}
use Rattle.fvn_module_statements.specs.inner.Sorts.{sort_of}
use Rattle.fvn_module_statements.specs.inner.Attributes.{is_some}

-- Sorts.

-- WORD, which holds no colon
abbrev pub sort_name_of : List Piece → Option (Text × List Piece)
sort_name_of [] = None
sort_name_of (p ∷ ps) = if is_word p && not (has_colon p.text) then Some (p.text, ps) else None

-- WORD, which is no <
abbrev pub member_of : List Piece → Option (Text × List Piece)
member_of [] = None
member_of (p ∷ ps) = if is_word p && not (is_name (codes "<") p) then Some (p.text, ps) else None

-- one word or more
abbrev pub if_some : {A : Type 0} → List A → List Piece → Option (List A × List Piece)
if_some [] ps = None
if_some (x ∷ xs) ps = Some (x ∷ xs, ps)

-- WORD .. WORD
abbrev pub group_of : List Piece → Option (List Text × List Piece)
group_of ps = if_some (gather member_of ps [] ps).0 (gather member_of ps [] ps).1

-- < WORD .. WORD
abbrev pub group_above : List Piece → Option (List Text × List Piece)
group_above [] = None
group_above (p ∷ ps) = if is_name (codes "<") p then group_of ps else None

-- nothing is left
abbrev pub is_empty : List Piece → Bool
is_empty [] = true
is_empty (p ∷ ps) = false

-- WORD .. WORD, to the end
abbrev pub sort_names_of : List Piece → Option (List Text)
sort_names_of ps =
    if is_some (gather sort_name_of ps [] ps).0 && is_empty (gather sort_name_of ps [] ps).1
    then Some (gather sort_name_of ps [] ps).0 else None

-- a group and those above it, to the end
abbrev pub groups_with : List Text → List (List Text) → List Piece → Option (List (List Text))
groups_with g gs ps = if is_some gs && is_empty ps then Some (g ∷ gs) else None

-- WORD .. WORD < WORD .. WORD .., to the end
abbrev pub groups_of : List Piece → Option (List (List Text))
groups_of ps = bind (group_of ps) (λ g. groups_with g.0 (gather group_above g.1 [] g.1).0 (gather group_above g.1 [] g.1).1)

-- Variables.

-- a sort that nothing follows
abbrev pub alone : Option (RawSort × List Piece) → Option RawSort
alone None = None
alone (Some r) = if is_empty r.1 then Some r.0 else None

-- a sort, to the end
abbrev pub whole_sort : List Piece → Option RawSort
whole_sort ps = alone (sort_of ps)

-- : SORT, to the end
abbrev pub declared_sort : List Piece → Option RawSort
declared_sort [] = None
declared_sort (p ∷ ps) = if is_name (codes ":") p then whole_sort ps else None

-- there is no sort
abbrev pub is_none : Option RawSort → Bool
is_none None = true
is_none (Some s) = false

-- WORD, which does not begin : SORT to the end
abbrev pub variable_of : List Piece → Option (Text × List Piece)
variable_of [] = None
variable_of (p ∷ ps) = if is_word p && is_none (declared_sort (p ∷ ps)) then Some (p.text, ps) else None

-- WORD .. WORD : SORT, to the end
abbrev pub variables_with : List Text → Option RawSort → Option (List Text × RawSort)
variables_with names None = None
variables_with names (Some s) = if is_some names then Some (names, s) else None

-- variables and their sort
abbrev pub variables_of : List Piece → Option (List Text × RawSort)
variables_of ps = variables_with (gather variable_of ps [] ps).0 (declared_sort (gather variable_of ps [] ps).1)

-- Operators.

-- what stands before and behind the first colon
abbrev pub split_colon : List Piece → Option (List Piece × List Piece)
split_colon [] = None
split_colon (p ∷ ps) =
    if is_name (codes ":") p then Some ([], ps) else bind (split_colon ps) (λ r. Some (p ∷ r.0, r.1))

-- what stands before the parenthesis that closes, where so many are open inside, and behind it; none where a colon comes before
abbrev pub before_close : ℕ → List Piece → Option (List Piece × List Piece)
before_close n [] = None
before_close n (p ∷ ps) =
    if is_name (codes ":") p then None
    else if is_special (codes ")") p && (n == 0) then Some ([], ps)
    else bind (before_close (depth_behind n p) ps) (λ r. Some (p ∷ r.0, r.1))

-- a name in parentheses that holds a piece
abbrev pub round_name : List Piece → List Piece → Option (OperatorName × List Piece)
round_name [] ps = None
round_name (q ∷ qs) ps = Some (Round (q ∷ qs), ps)

-- WORD, which is no colon, or ( tokens )
abbrev pub name_of : List Piece → Option (OperatorName × List Piece)
name_of [] = None
name_of (p ∷ ps) =
    if is_special (codes "(") p then bind (before_close 0 ps) (λ r. round_name r.0 r.1)
    else if is_word p && not (is_name (codes ":") p) then Some (Single p.text, ps) else None
