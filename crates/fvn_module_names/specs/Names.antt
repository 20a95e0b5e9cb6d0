-- The names that statements declare, in order of first occurrence, each once.
use Rattle.std.specs.Prelude.{if◌then◌else◌, List, [], ◌∷◌, ◌++◌, map, codes}
use Rattle.fvn_lex.specs.Cut.{Piece}
use Rattle.fvn_syntax.specs.Pieces.{Text, is_word}
use Rattle.fvn_syntax.specs.Texts.{with_text}
use Rattle.fvn_syntax.specs.declared.sorts.RawSort.{RawSort}
use Rattle.fvn_module_syntax.specs.declared.statement.OperatorName.{OperatorName}
use Rattle.fvn_module_syntax.specs.declared.statement.OperatorName.TheVariants.{Single, Round}
use Rattle.fvn_module_syntax.specs.declared.statement.Statement.{Statement}
use Rattle.fvn_module_syntax.specs.declared.statement.Statement.TheVariants.{Sorts, Subsorts, Operator, Operators, Variables, Equation}

-- a token of a name: a backquote stands before a special byte
abbrev pub quoted : Piece → Text
quoted p = if is_word p then p.text else codes "`" ++ p.text

-- the name that tokens make, without a space between them
abbrev pub joined : List Piece → Text
joined [] = []
joined (p ∷ ps) = quoted p ++ joined ps

-- the text of a name behind `ops`
abbrev pub name_text : OperatorName → Text
name_text (Single w) = w
name_text (Round ps) = joined ps

-- the sorts that a statement declares
abbrev pub sorts_in : Statement → List Text
sorts_in (Sorts plural names) = names
sorts_in (Subsorts plural groups) = []
sorts_in (Operator name rank attributes) = []
sorts_in (Operators names rank attributes) = []
sorts_in (Variables plural names sort) = []
sorts_in (Equation label left right marks) = []

-- the operators that a statement declares
abbrev pub operators_in : Statement → List Text
operators_in (Sorts plural names) = []
operators_in (Subsorts plural groups) = []
operators_in (Operator name rank attributes) = joined name ∷ []
operators_in (Operators names rank attributes) = map name_text names
operators_in (Variables plural names sort) = []
operators_in (Equation label left right marks) = []

-- these names, where there are no arguments
abbrev pub without_arguments : List RawSort → List Text → List Text
without_arguments [] names = names
without_arguments (s ∷ ss) names = []

-- the constants that a statement declares
abbrev pub constants_in : Statement → List Text
constants_in (Sorts plural names) = []
constants_in (Subsorts plural groups) = []
constants_in (Operator name rank attributes) = without_arguments rank.args (joined name ∷ [])
constants_in (Operators names rank attributes) = without_arguments rank.args (map name_text names)
constants_in (Variables plural names sort) = []
constants_in (Equation label left right marks) = []

-- the texts with these, each of which is put at the end where it is new
abbrev pub with_texts : List Text → List Text → List Text
with_texts texts [] = texts
with_texts texts (w ∷ ws) = with_texts (with_text texts w) ws

-- the names so far with those that statements declare
abbrev pub with_names : (Statement → List Text) → List Text → List Statement → List Text
with_names names_in texts [] = texts
with_names names_in texts (st ∷ sts) = with_names names_in (with_texts texts (names_in st)) sts

-- the sorts that statements declare
abbrev pub sorts_of : List Statement → List Text
sorts_of = with_names sorts_in []

-- the operators that statements declare
abbrev pub operators_of : List Statement → List Text
operators_of = with_names operators_in []

-- the constants that statements declare
abbrev pub constants_of : List Statement → List Text
constants_of = with_names constants_in []
