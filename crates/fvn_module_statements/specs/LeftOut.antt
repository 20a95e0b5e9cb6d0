-- Where in the pieces of a statement a left-out form stands, as the first from left to right.
use Rattle.std.specs.Prelude.{◌≡◌, ◌≢◌, ◌⊎◌, true, false, List, [], ◌∷◌, ◌++◌, Option, Some, codes}
use Rattle.std.specs.List.{AllByRecursion, Contains}
use Rattle.fvn_lex.specs.Cut.{Piece}
use Rattle.fvn_syntax.specs.Pieces.{Text, word, left_bracket, is_name}
use Rattle.fvn_module_syntax.specs.declared.statement.RawRank.{RawRank}
use Rattle.fvn_module_syntax.specs.declared.statement.Attribute.{Attribute}
use Rattle.fvn_module_syntax.specs.declared.statement.Attribute.TheVariants.{Assoc, Comm, Identity, Constructor, Ditto, Precedence, Gather, Format}
use Rattle.fvn_module_syntax.specs.declared.statement.Mark.{Mark}
use Rattle.fvn_module_syntax.specs.declared.statement.Mark.TheVariants.{Variant}
use Rattle.fvn_module_syntax.specs.declared.statement.OperatorName.{OperatorName}
use Rattle.fvn_module_syntax.specs.declared.statement.Feature.{Feature}
use Rattle.fvn_module_syntax.specs.declared.statement.Feature.TheVariants as feature
use Rattle.fvn_module_syntax.specs.Spelling.{each, colon, equals, spell_rank, spell_attribute, spell_mark, spell_name, bracketed, spell_equation}
use Rattle.fvn_module_syntax.specs.Words.{HasNo, touch, names_touch}
use Rattle.fvn_module_syntax.specs.LeftOut.{feature_of, is_next, left_out_in}
use Rattle.fvn_module_syntax.specs.Written.{NotEmpty, NoColons, IsName, IsRank, IsSide}

-- The first word.

-- The statement begins with a word that begins this form.
pub record BeginsWith (f : Feature) (ps : List Piece) : Type 0 where
  pub first : Text
  pub rest : List Piece
  pub spelled : ps ≡ word first ∷ rest
  pub begins : feature_of first ≡ Some f

-- Names of operators.

-- behind `op` stand pieces, none a lone colon, of which two words side by side do not touch at an underscore
pub record HasLooseName (ps : List Piece) : Type 0 where
  pub name : List Piece
  pub rest : List Piece
  pub spelled : ps ≡ word (codes "op") ∷ name ++ rest
  pub plain : NoColons name
  pub loose : touch name ≡ false

-- behind `ops` stand names, and then one of which two words side by side do not touch at an underscore
pub record HasLooseNames (ps : List Piece) : Type 0 where
  pub names : List OperatorName
  pub name : OperatorName
  pub rest : List Piece
  pub spelled : ps ≡ word (codes "ops") ∷ each spell_name names ++ (spell_name name ++ rest)
  pub are_names : AllByRecursion IsName names
  pub fits : IsName name
  pub loose : names_touch name ≡ false

-- `op` with its name, or `ops` with their names, all of whose words touch at underscores
pub data IsNaming (ps : List Piece) : Type 0 where
  one : (name : List Piece) → NotEmpty name → NoColons name → touch name ≡ true → ps ≡ word (codes "op") ∷ name → IsNaming ps
  several : (names : List OperatorName) → NotEmpty names → AllByRecursion IsName names →
      AllByRecursion (λ n. names_touch n ≡ true) names → ps ≡ word (codes "ops") ∷ each spell_name names → IsNaming ps

-- Attributes of operators.

-- behind the name of an identity stands the next attribute or the end
abbrev pub GoesOn : List Piece → Type 0
GoesOn [] = ⊥
GoesOn (p ∷ ps) = is_next p ≡ true

-- an attribute that can be written before these pieces
abbrev pub IsAttributeBefore : List Piece → Attribute → Type 0
IsAttributeBefore rest Assoc = Unit {0}
IsAttributeBefore rest Comm = Unit {0}
IsAttributeBefore rest Constructor = Unit {0}
IsAttributeBefore rest Ditto = Unit {0}
IsAttributeBefore rest (Identity e) = GoesOn rest
IsAttributeBefore rest (Precedence n) = Unit {0}
IsAttributeBefore rest (Gather ws) = NotEmpty ws
IsAttributeBefore rest (Format ws) = NotEmpty ws

-- each of these attributes can be written before what follows it
abbrev pub AreAttributesBefore : List Piece → List Attribute → Type 0
AreAttributesBefore rest [] = Unit {0}
AreAttributesBefore rest (a ∷ xs) = IsAttributeBefore (each spell_attribute xs ++ rest) a × AreAttributesBefore rest xs

-- no attribute begins here
abbrev pub BeginsNoAttribute : List Piece → Type 0
BeginsNoAttribute ps = (a : Attribute) (rest : List Piece) → IsAttributeBefore rest a → ps ≡ spell_attribute a ++ rest → ⊥

-- Attributes up to where none begins: this form is the first of those that they are, or stands there.
pub record HasLeftOutAttribute (f : Feature) (ps : List Piece) : Type 0 where
  pub attributes : List Attribute
  pub rest : List Piece
  pub spelled : ps ≡ left_bracket ∷ each spell_attribute attributes ++ rest
  pub written : AreAttributesBefore rest attributes
  pub ended : BeginsNoAttribute rest
  pub first : left_out_in attributes rest ≡ Some f

-- Names that touch, a colon and the sorts of an operator, and attributes among which this form is the first.
pub record IsLeftOutOperator (f : Feature) (ps : List Piece) : Type 0 where
  pub naming : List Piece
  pub rank : RawRank
  pub behind : List Piece
  pub spelled : ps ≡ naming ++ (colon ∷ spell_rank rank ++ behind)
  pub names : IsNaming naming
  pub sorts : IsRank rank
  pub left_out : HasLeftOutAttribute f behind

-- Equations.

-- the words that begin an attribute of an equation
abbrev pub mark_words : List Text
mark_words = codes "variant" ∷ codes "label" ∷ []

-- attributes end before a word that begins none
pub record BeginsNone (beginnings : List Text) (ps : List Piece) : Type 0 where
  pub first : Text
  pub tail : List Piece
  pub is : ps ≡ word first ∷ tail
  pub other : AllByRecursion (λ t. first ≢ t) beginnings

-- there are no attributes, or `variant` is none of them
abbrev pub LacksVariant : List Piece → Type 0
LacksVariant ps = (marks : List Mark) × (ps ≡ bracketed spell_mark marks) × (Contains marks Variant → ⊥)

-- behind some attributes stands a word that begins none
abbrev pub HasUnknown : List Piece → Type 0
HasUnknown ps =
    (marks : List Mark) × (rest : List Piece) × (ps ≡ left_bracket ∷ each spell_mark marks ++ rest) × BeginsNone mark_words rest

-- what makes this left-out form stand behind the sides of an equation
abbrev pub StandsBehind : Feature → List Piece → Type 0
StandsBehind feature.Equation ps = LacksVariant ps
StandsBehind feature.Attribute ps = HasUnknown ps
StandsBehind f ps = ⊥

-- An equation's label and sides, and this left-out form behind them.
pub record HasSidesBefore (f : Feature) (ps : List Piece) : Type 0 where
  pub label : Option Text
  pub left : List Piece
  pub right : List Piece
  pub behind : List Piece
  pub spelled : ps ≡ spell_equation label left right behind
  pub is_left : IsSide (equals ∷ []) left
  pub is_right : IsSide behind right
  pub stands : StandsBehind f behind

-- A statement that begins with `eq`, without the word `variant`, and no unknown attribute stands behind its sides.
pub record NamesNoVariant (ps : List Piece) : Type 0 where
  pub rest : List Piece
  pub spelled : ps ≡ word (codes "eq") ∷ rest
  pub unnamed : HasNo (is_name (codes "variant")) rest
  pub known : HasSidesBefore feature.Attribute ps → ⊥

-- an equation with an unknown attribute, or an equation, be it of its form or not, without `variant`
abbrev pub IsLeftOutEquation : Feature → List Piece → Type 0
IsLeftOutEquation f ps = HasSidesBefore f ps ⊎ ((f ≡ feature.Equation) × NamesNoVariant ps)

-- All of them.

-- This left-out form stands in the pieces of a statement, and is the first.
pub data IsLeftOut (f : Feature) (ps : List Piece) : Type 0 where
  by_first_word : BeginsWith f ps → IsLeftOut f ps
  by_name : f ≡ feature.Name → HasLooseName ps → IsLeftOut f ps
  by_names : f ≡ feature.Name → HasLooseNames ps → IsLeftOut f ps
  by_attribute : IsLeftOutOperator f ps → IsLeftOut f ps
  by_equation : IsLeftOutEquation f ps → IsLeftOut f ps
