-- How the reader goes over a statement.
use Rattle.std.specs.Prelude.{Bool, true, false, if◌then◌else◌, List, [], ◌∷◌, Option, Some, None, codes}
use Rattle.std.specs.List.{list_all}
use Rattle.std.specs.Str.{bytes_eq}
use Rattle.fvn_lex.specs.Cut.{Piece}
use Rattle.fvn_syntax.specs.Pieces.{Text, is_word, is_name}
use Rattle.fvn_syntax.specs.declared.sorts.RawSort.{RawSort}
use Rattle.fvn_module_syntax.specs.declared.statement.RawRank.{RawRank}
use Rattle.fvn_module_syntax.specs.declared.statement.Attribute.{Attribute}
use Rattle.fvn_module_syntax.specs.declared.statement.OperatorName.{OperatorName}
use Rattle.fvn_module_syntax.specs.declared.statement.Statement.{Statement}
use Rattle.fvn_module_syntax.specs.declared.statement.Statement.TheVariants as statement
use Rattle.fvn_module_syntax.specs.declared.statement.Feature.{Feature}
use Rattle.fvn_module_syntax.specs.declared.statement.Feature.TheVariants as feature
use Rattle.fvn_module_statements.specs.declared.outcome.Reading.{Reading}
use Rattle.fvn_module_statements.specs.declared.outcome.Reading.TheVariants.{Read, LeftOut, NoForm}
use Rattle.fvn_module_statements.specs.declared.reading.Keyword.{Keyword}
use Rattle.fvn_module_statements.specs.declared.reading.Keyword.TheVariants.{Sorts, Subsorts, Operator, Operators, Variables, Equation}
use Rattle.fvn_module_syntax.specs.Words.{touch, names_touch}
use Rattle.fvn_module_syntax.specs.LeftOut.{feature_of}
use Rattle.fvn_module_statements.specs.inner.Gather.{map_reading, gather}
use Rattle.fvn_module_statements.specs.inner.Sorts.{rank_of}
use Rattle.fvn_module_statements.specs.inner.Attributes.{is_some, attributes_of}
use Rattle.fvn_module_statements.specs.inner.Equations.{asked_equation}
use Rattle.fvn_module_statements.specs.inner.Names.{is_empty, sort_names_of, groups_of, variables_of, split_colon, name_of}

-- sorts and attributes of an operator
abbrev pub with_rank : (RawRank → List Attribute → Statement) → Option (RawRank × List Piece) → Reading Statement
with_rank make None = NoForm
with_rank make (Some r) = map_reading (make r.0) (attributes_of r.1)

-- what follows the colon behind one name
abbrev pub operator_with : List Piece → List Piece → Reading Statement
operator_with name ps = with_rank (statement.Operator name) (rank_of ps)

-- what follows the colon behind several names
abbrev pub operators_with : List OperatorName → List Piece → Reading Statement
operators_with names ps = with_rank (statement.Operators names) (rank_of ps)

-- the name of an operator, and a colon behind it
abbrev pub operator_at : List Piece → Option (List Piece × List Piece) → Reading Statement
operator_at ps None = if touch ps then NoForm else LeftOut feature.Name
operator_at ps (Some r) =
    if is_empty r.0 then NoForm
    else if touch r.0 then operator_with r.0 r.1 else LeftOut feature.Name

-- what follows `op`
abbrev pub operator_of : List Piece → Reading Statement
operator_of ps = operator_at ps (split_colon ps)

-- a colon behind several names, and what follows it
abbrev pub operators_behind : List OperatorName → List Piece → Reading Statement
operators_behind names [] = NoForm
operators_behind names (p ∷ ps) = if is_name (codes ":") p then operators_with names ps else NoForm

-- names of operators, and a colon behind them
abbrev pub operators_at : List OperatorName → List Piece → Reading Statement
operators_at names ps =
    if list_all names_touch names then (if is_some names then operators_behind names ps else NoForm)
    else LeftOut feature.Name

-- what follows `ops`
abbrev pub operators_of : List Piece → Reading Statement
operators_of ps = operators_at (gather name_of ps [] ps).0 (gather name_of ps [] ps).1

-- what follows `sort`
abbrev pub sorts_read : Bool → Option (List Text) → Reading Statement
sorts_read plural None = NoForm
sorts_read plural (Some names) = Read (statement.Sorts plural names)

-- what follows `subsort`
abbrev pub groups_read : Bool → Option (List (List Text)) → Reading Statement
groups_read plural None = NoForm
groups_read plural (Some groups) = Read (statement.Subsorts plural groups)

-- what follows `var`
abbrev pub variables_read : Bool → Option (List Text × RawSort) → Reading Statement
variables_read plural None = NoForm
variables_read plural (Some r) = Read (statement.Variables plural r.0 r.1)

-- the word that begins a statement
abbrev pub keyword_of : Text → Option Keyword
keyword_of w =
    if bytes_eq w (codes "sort") then Some (Sorts false)
    else if bytes_eq w (codes "sorts") then Some (Sorts true)
    else if bytes_eq w (codes "subsort") then Some (Subsorts false)
    else if bytes_eq w (codes "subsorts") then Some (Subsorts true)
    else if bytes_eq w (codes "op") then Some Operator
    else if bytes_eq w (codes "ops") then Some Operators
    else if bytes_eq w (codes "var") then Some (Variables false)
    else if bytes_eq w (codes "vars") then Some (Variables true)
    else if bytes_eq w (codes "eq") then Some Equation
    else None

-- what follows the word that begins a statement
abbrev pub statement_behind : List Piece → Option Keyword → Reading Statement
statement_behind ps None = NoForm
statement_behind ps (Some (Sorts plural)) = sorts_read plural (sort_names_of ps)
statement_behind ps (Some (Subsorts plural)) = groups_read plural (groups_of ps)
statement_behind ps (Some Operator) = operator_of ps
statement_behind ps (Some Operators) = operators_of ps
statement_behind ps (Some (Variables plural)) = variables_read plural (variables_of ps)
statement_behind ps (Some Equation) = asked_equation ps

-- a left-out form, or else the statement
abbrev pub unless_left_out : Option Feature → Reading Statement → Reading Statement
unless_left_out None r = r
unless_left_out (Some f) r = LeftOut f

-- what the pieces of a statement are
abbrev pub statement_of : List Piece → Reading Statement
statement_of [] = NoForm
statement_of (p ∷ ps) =
    if is_word p then unless_left_out (feature_of p.text) (statement_behind ps (keyword_of p.text)) else NoForm
