-- A module as it is written, and the first fault of tokens that are none.
use Rattle.std.specs.Prelude.{ℕ, ◌≡◌, ◌+◌, ◌⊎◌, List, [], ◌∷◌, ◌++◌, length, codes}
use Rattle.std.specs.List.{AllByRecursion}
use Rattle.fvn_lex.specs.Cut.{Piece}
use Rattle.fvn_syntax.specs.Pieces.{Text, word, dot, is_name}
use Rattle.fvn_module_syntax.specs.declared.statement.Feature.{Feature}
use Rattle.fvn_module_syntax.specs.declared.statement.Statement.{Statement}
use Rattle.fvn_module_syntax.specs.declared.form.Form.{Form}
use Rattle.fvn_module_statements.specs.declared.form.FormFault.{FormFault}
use Rattle.fvn_module_statements.specs.declared.form.FormFault.TheVariants as fault
use Rattle.fvn_module_syntax.specs.Spelling.{each, spell_statement}
use Rattle.fvn_module_syntax.specs.Written.{NotEmpty, IsWritten}
use Rattle.fvn_module_syntax.specs.Words.{HasNo, is_stop}
use Rattle.fvn_module_statements.specs.LeftOut.{IsLeftOut}

-- a statement with its dot
abbrev pub dotted : Statement → List Piece
dotted st = spell_statement st ++ (dot ∷ [])

-- the word `endfm`
abbrev pub end : Piece
end = word (codes "endfm")

-- fmod NAME is BODY endfm
abbrev pub spell_frame : Text → List Piece → List Piece
spell_frame name body = word (codes "fmod") ∷ word name ∷ word (codes "is") ∷ body ++ (end ∷ [])

-- The pieces are a module of this name with this body, and `endfm` does not stand earlier.
pub record IsFrame (ps : List Piece) (name : Text) (body : List Piece) : Type 0 where
  pub spelled : ps ≡ spell_frame name body
  pub unended : HasNo (is_name (codes "endfm")) (word name ∷ body)

-- A statement that can be written, in which no dot stands.
pub record IsStatement (st : Statement) : Type 0 where
  pub written : IsWritten st
  pub undotted : HasNo is_stop (spell_statement st)

-- The pieces are this module.
pub record IsFormOf (ps : List Piece) (m : Form) : Type 0 where
  pub frame : IsFrame ps m.name (each dotted m.statements)
  pub statements : AllByRecursion IsStatement m.statements

-- what stands before the first dot
pub record IsFront (ps front : List Piece) : Type 0 where
  pub rest : List Piece
  pub split : ps ≡ front ++ (dot ∷ rest)
  pub undotted : HasNo is_stop front

-- the pieces are no statement that can be written, and no left-out form stands in them
pub record IsFormless (ps : List Piece) : Type 0 where
  pub no_statement : (st : Statement) → IsWritten st → ps ≡ spell_statement st → ⊥
  pub none_left_out : (f : Feature) → IsLeftOut f ps → ⊥

-- no dot follows, or the pieces before the first one are of no form
abbrev pub HasNoStatement : List Piece → Type 0
HasNoStatement ps = (NotEmpty ps × HasNo is_stop ps) ⊎ ((front : List Piece) × (IsFront ps front × IsFormless front))

-- a left-out form stands in the pieces before the first dot
abbrev pub HasLeftOut : Feature → List Piece → Type 0
HasLeftOut f ps = (front : List Piece) × (IsFront ps front × IsLeftOut f front)

-- Statements lead up to the one with this number, where these pieces are left.
pub record LeadsTo (body : List Piece) (n : ℕ) (left : List Piece) : Type 0 where
  pub before : List Statement
  pub is : body ≡ each dotted before ++ left
  pub number : n ≡ length before + 1
  pub statements : AllByRecursion IsStatement before

-- What is wrong at the first statement that is refused.
pub record IsRefused (ps : List Piece) (n : ℕ) (Wrong : List Piece → Type 0) : Type 0 where
  pub name : Text
  pub body : List Piece
  pub frame : IsFrame ps name body
  pub left : List Piece
  pub leads : LeadsTo body n left
  pub wrong : Wrong left

-- The first fault of pieces that are no module.
abbrev pub IsFirstFault : List Piece → FormFault → Type 0
IsFirstFault ps fault.Header = (name : Text) (body : List Piece) → IsFrame ps name body → ⊥
IsFirstFault ps (fault.Statement n) = IsRefused ps n HasNoStatement
IsFirstFault ps (fault.LeftOut n f) = IsRefused ps n (HasLeftOut f)
IsFirstFault ps fault.NoMemory = ⊥

-- the pieces are no module
abbrev pub HasNoForm : List Piece → Type 0
HasNoForm ps = (m : Form) → IsFormOf ps m → ⊥
