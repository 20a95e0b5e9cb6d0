-- Which statements can be written: what holds of them beside their spelling.
use Rattle.std.specs.Prelude.{ℕ, ◌≡◌, ◌≢◌, ◌≤◌, ◌==◌, ◌&&◌, true, false, List, [], ◌∷◌, length, None, codes}
use Rattle.std.specs.List.{AllByRecursion, Contains}
use Rattle.fvn_lex.specs.Cut.{Piece}
use Rattle.fvn_syntax.specs.Pieces.{Text, right_bracket, is_name, is_special}
use Rattle.fvn_syntax.specs.declared.sorts.RawSort.{RawSort}
use Rattle.fvn_syntax.specs.declared.sorts.RawSort.TheVariants.{Name, Kind}
use Rattle.fvn_syntax.specs.Raw.{RawTerm, spell, IsWritten as IsWrittenTerm, EndsBefore}
use Rattle.fvn_module_syntax.specs.declared.statement.RawRank.{RawRank}
use Rattle.fvn_module_syntax.specs.declared.statement.Attribute.{Attribute}
use Rattle.fvn_module_syntax.specs.declared.statement.Attribute.TheVariants.{Assoc, Comm, Identity, Constructor, Ditto, Precedence, Gather, Format}
use Rattle.fvn_module_syntax.specs.declared.statement.Mark.TheVariants.{Variant}
use Rattle.fvn_module_syntax.specs.declared.statement.OperatorName.{OperatorName}
use Rattle.fvn_module_syntax.specs.declared.statement.OperatorName.TheVariants.{Single, Round}
use Rattle.fvn_module_syntax.specs.declared.statement.Statement.{Statement}
use Rattle.fvn_module_syntax.specs.declared.statement.Statement.TheVariants.{Sorts, Subsorts, Operator, Operators, Variables, Equation}
use Rattle.fvn_module_syntax.specs.Spelling.{bracketed, spell_mark, equals}
use Rattle.fvn_module_syntax.specs.Words.{has_colon, touch, names_touch, depth_behind}
use Rattle.fvn_module_syntax.specs.LeftOut.{left_out_in}

-- there is one or more
abbrev pub NotEmpty : {A : Type 0} → List A → Type 0
NotEmpty [] = ⊥
NotEmpty (x ∷ xs) = Unit {0}

-- the first arrow is the one between arguments and result, so no argument is one
abbrev pub IsArgument : RawSort → Type 0
IsArgument (Name s) = (s ≢ codes "->") × (s ≢ codes "~>")
IsArgument (Kind s ss) = Unit {0}

-- no argument is an arrow
abbrev pub IsRank : RawRank → Type 0
IsRank r = AllByRecursion IsArgument r.args

-- in parentheses stands one word or more
abbrev pub IsAttribute : Attribute → Type 0
IsAttribute Assoc = Unit {0}
IsAttribute Comm = Unit {0}
IsAttribute Constructor = Unit {0}
IsAttribute Ditto = Unit {0}
IsAttribute (Identity e) = Unit {0}
IsAttribute (Precedence n) = Unit {0}
IsAttribute (Gather ws) = NotEmpty ws
IsAttribute (Format ws) = NotEmpty ws

-- attributes among which no left-out form stands
abbrev pub AreAttributes : List Attribute → Type 0
AreAttributes xs = AllByRecursion IsAttribute xs × (left_out_in xs (right_bracket ∷ []) ≡ None)

-- the name of a sort holds no colon
abbrev pub IsSortName : Text → Type 0
IsSortName w = has_colon w ≡ false

-- between groups of sorts stands <
abbrev pub IsMember : Text → Type 0
IsMember w = w ≢ codes "<"

-- a group of sorts: one word or more, none of them <
abbrev pub IsGroup : List Text → Type 0
IsGroup ws = NotEmpty ws × AllByRecursion IsMember ws

-- no piece is a lone colon
abbrev pub NoColons : List Piece → Type 0
NoColons ps = AllByRecursion (λ p. is_name (codes ":") p ≡ false) ps

-- each parenthesis that opens here closes here, where so many are open before, and no piece is a lone colon
abbrev pub IsBalanced : ℕ → List Piece → Type 0
IsBalanced n [] = (n == 0) ≡ true
IsBalanced n (p ∷ ps) = (is_name (codes ":") p ≡ false) × (is_special (codes ")") p && (n == 0) ≡ false) × IsBalanced (depth_behind n p) ps

-- a name behind `ops`
abbrev pub IsName : OperatorName → Type 0
IsName (Single w) = w ≢ codes ":"
IsName (Round ps) = NotEmpty ps × IsBalanced 0 ps

-- a side of an equation: a written term, which ends before the rest
pub record IsSide (rest side : List Piece) : Type 0 where
  pub term : RawTerm
  pub written : IsWrittenTerm term
  pub ends : EndsBefore rest term
  pub spelled : side ≡ spell term

-- a statement that can be written; words of an operator's name that stand side by side touch at an underscore,
-- and among the attributes of an equation is `variant`
abbrev pub IsWritten : Statement → Type 0
IsWritten (Sorts plural names) = NotEmpty names × AllByRecursion IsSortName names
IsWritten (Subsorts plural groups) = (2 ≤ length groups) × AllByRecursion IsGroup groups
IsWritten (Operator name rank attributes) =
    NotEmpty name × NoColons name × (touch name ≡ true) × IsRank rank × AreAttributes attributes
IsWritten (Operators names rank attributes) =
    NotEmpty names × AllByRecursion IsName names × AllByRecursion (λ n. names_touch n ≡ true) names × IsRank rank × AreAttributes attributes
IsWritten (Variables plural names sort) = NotEmpty names
IsWritten (Equation label left right marks) =
    IsSide (equals ∷ []) left × IsSide (bracketed spell_mark marks) right × Contains marks Variant
