-- How statements are spelled.
use Rattle.std.specs.Prelude.{Bool, true, false, List, [], ◌∷◌, ◌++◌, Option, Some, None, codes}
use Rattle.fvn_lex.specs.Cut.{Piece}
use Rattle.fvn_syntax.specs.Pieces.{Text, word, left_paren, right_paren, left_bracket, right_bracket}
use Rattle.fvn_syntax.specs.Raw.{spell_sort}
use Rattle.fvn_module_syntax.specs.declared.statement.RawRank.{RawRank}
use Rattle.fvn_module_syntax.specs.declared.statement.Attribute.{Attribute}
use Rattle.fvn_module_syntax.specs.declared.statement.Attribute.TheVariants.{Assoc, Comm, Identity, Constructor, Ditto, Precedence, Gather, Format}
use Rattle.fvn_module_syntax.specs.declared.statement.Mark.{Mark}
use Rattle.fvn_module_syntax.specs.declared.statement.Mark.TheVariants.{Variant, Label}
use Rattle.fvn_module_syntax.specs.declared.statement.OperatorName.{OperatorName}
use Rattle.fvn_module_syntax.specs.declared.statement.OperatorName.TheVariants.{Single, Round}
use Rattle.fvn_module_syntax.specs.declared.statement.Statement.{Statement}
use Rattle.fvn_module_syntax.specs.declared.statement.Statement.TheVariants.{Sorts, Subsorts, Operator, Operators, Variables, Equation}

-- one after another
abbrev pub each : {A : Type 0} → (A → List Piece) → List A → List Piece
each spell [] = []
each spell (x ∷ xs) = spell x ++ each spell xs

-- WORD
abbrev pub spell_word : Text → List Piece
spell_word w = word w ∷ []

-- WORD .. WORD
abbrev pub words : List Text → List Piece
words = each spell_word

-- a colon alone
abbrev pub colon : Piece
colon = word (codes ":")

-- -> or ~>
abbrev pub arrow : (partial : Bool) → Piece
arrow false = word (codes "->")
arrow true = word (codes "~>")

-- SORT .. SORT -> SORT
abbrev pub spell_rank : RawRank → List Piece
spell_rank r = each spell_sort r.args ++ (arrow r.partial ∷ spell_sort r.result)

-- ( tokens )
abbrev pub in_parens : List Piece → List Piece
in_parens ps = left_paren ∷ ps ++ (right_paren ∷ [])

-- one attribute of an operator
abbrev pub spell_attribute : Attribute → List Piece
spell_attribute Assoc = word (codes "assoc") ∷ []
spell_attribute Comm = word (codes "comm") ∷ []
spell_attribute Constructor = word (codes "ctor") ∷ []
spell_attribute Ditto = word (codes "ditto") ∷ []
spell_attribute (Identity e) = word (codes "id:") ∷ word e ∷ []
spell_attribute (Precedence n) = word (codes "prec") ∷ word n ∷ []
spell_attribute (Gather ws) = word (codes "gather") ∷ in_parens (words ws)
spell_attribute (Format ws) = word (codes "format") ∷ in_parens (words ws)

-- one attribute of an equation
abbrev pub spell_mark : Mark → List Piece
spell_mark Variant = word (codes "variant") ∷ []
spell_mark (Label w) = word (codes "label") ∷ word w ∷ []

-- these things in brackets, or nothing where there are none
abbrev pub bracketed : {A : Type 0} → (A → List Piece) → List A → List Piece
bracketed spell [] = []
bracketed spell (x ∷ xs) = left_bracket ∷ each spell (x ∷ xs) ++ (right_bracket ∷ [])

-- a name behind `ops`
abbrev pub spell_name : OperatorName → List Piece
spell_name (Single w) = word w ∷ []
spell_name (Round ps) = in_parens ps

-- < WORD .. WORD
abbrev pub spell_above : List Text → List Piece
spell_above ws = word (codes "<") ∷ words ws

-- groups with < between them
abbrev pub spell_groups : List (List Text) → List Piece
spell_groups [] = []
spell_groups (g ∷ gs) = words g ++ each spell_above gs

-- sort or sorts
abbrev pub sort_word : (plural : Bool) → Text
sort_word false = codes "sort"
sort_word true = codes "sorts"

-- subsort or subsorts
abbrev pub subsort_word : (plural : Bool) → Text
subsort_word false = codes "subsort"
subsort_word true = codes "subsorts"

-- var or vars
abbrev pub variable_word : (plural : Bool) → Text
variable_word false = codes "var"
variable_word true = codes "vars"

-- =
abbrev pub equals : Piece
equals = word (codes "=")

-- [ WORD ] : or nothing
abbrev pub spell_label : Option Text → List Piece
spell_label None = []
spell_label (Some w) = left_bracket ∷ word w ∷ right_bracket ∷ colon ∷ []

-- eq, a label, the sides with = between them, and what stands behind them
abbrev pub spell_equation : Option Text → (left right behind : List Piece) → List Piece
spell_equation label left right behind =
    word (codes "eq") ∷ spell_label label ++ (left ++ (equals ∷ right ++ behind))

-- a statement, without its dot
abbrev pub spell_statement : Statement → List Piece
spell_statement (Sorts plural names) = word (sort_word plural) ∷ words names
spell_statement (Subsorts plural groups) = word (subsort_word plural) ∷ spell_groups groups
spell_statement (Operator name rank attributes) =
    word (codes "op") ∷ name ++ (colon ∷ spell_rank rank ++ bracketed spell_attribute attributes)
spell_statement (Operators names rank attributes) =
    word (codes "ops") ∷ each spell_name names ++ (colon ∷ spell_rank rank ++ bracketed spell_attribute attributes)
spell_statement (Variables plural names sort) = word (variable_word plural) ∷ words names ++ (colon ∷ spell_sort sort)
spell_statement (Equation label left right marks) =
    spell_equation label left right (bracketed spell_mark marks)
