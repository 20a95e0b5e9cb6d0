-- What holds of every module that was read.
use Rattle.std.specs.Prelude.{◌≡◌, ◌≢◌, ◌≤◌, false, List, length, slice_get, All, AllPairs, Some, None}
use Rattle.fvn_lex.specs.Join.{IsPiece}
use Rattle.fvn_base.specs.declared.limits.TheConstants.{SORTS, OPERATORS, EQUATIONS}
use Rattle.fvn_terms.specs.declared.plain.OpId.{OpId}
use Rattle.fvn_syntax.specs.declared.names.Names.{Names}
use Rattle.fvn_syntax.specs.Pieces.{Text, word, is_colon_name}
use Rattle.fvn_syntax.specs.Names.{arity_of, sorted_name}
use Rattle.fvn_syntax.specs.Texts.{place}
use Rattle.fvn_syntax.specs.Scope.{IsNumbered}
use Rattle.fvn_syntax.specs.Laws.{IsFitting}
use Rattle.fvn_module_syntax.specs.Words.{has_colon}
use Rattle.fvn_theory.specs.Equations.{IsReadableEquation}
use Rattle.fvn_module.specs.Contents.{Contents, scope_of}

-- The text is a word, and is read as that word alone.
abbrev pub IsWord : Text → Type 0
IsWord w = IsPiece (word w)

-- no two texts are the same
abbrev pub AreDistinct : List Text → Type 0
AreDistinct = AllPairs (λ v w. v ≢ w)

-- a sort's name is a word without a colon
pub record IsSortText (w : Text) : Type 0 where
  pub word : IsWord w
  pub no_colon : has_colon w ≡ false

-- A constant is read as itself: its name ends with no colon, is not NAME:SORT with a declared sort, and is not the
-- name of a variable.
pub record IsConstantText (names : Names) (w : Text) : Type 0 where
  pub no_kind : is_colon_name w ≡ false
  pub no_sort : sorted_name names.sorts w ≡ None
  pub no_variable : place names.variables.texts w ≡ None

-- The names fit the signature and are read as what they name; equations are well-made.
pub record IsReadable (m : Contents) : Type 0 where
  pub numbered : IsNumbered m.names
  pub fitting : IsFitting (scope_of m.signature m.names)
  -- each declared sort and each operator has a name
  pub sort_names : length m.names.sorts ≡ m.signature.sorts
  pub op_names : length m.names.ops ≡ length m.signature.ops
  pub sort_texts : All IsSortText m.names.sorts
  pub op_texts : All IsWord m.names.ops
  pub distinct_sorts : AreDistinct m.names.sorts
  pub distinct_ops : AreDistinct m.names.ops
  pub constants : (f : OpId) (w : Text) → slice_get m.names.ops f.0 ≡ Some w → arity_of m.signature f ≡ 0 → IsConstantText m.names w
  pub few_sorts : length m.names.sorts ≤ SORTS
  pub few_ops : length m.names.ops ≤ OPERATORS
  pub few_equations : length m.equations ≤ EQUATIONS
  pub equations : All (IsReadableEquation m.signature) m.equations
