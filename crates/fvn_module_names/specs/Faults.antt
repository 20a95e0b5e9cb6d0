-- Which names of statements are at fault, and the first of them.
use Rattle.std.specs.Prelude.{ℕ, ◌≡◌, ◌+◌, Bool, true, false, not, ◌&&◌, ◌||◌, List, [], ◌∷◌, ◌++◌, length, Option, Some, None}
use Rattle.std.specs.List.{list_any}
use Rattle.fvn_terms.specs.declared.plain.SortId.{SortId}
use Rattle.fvn_syntax.specs.Pieces.{Text, is_colon_name}
use Rattle.fvn_syntax.specs.Texts.{place}
use Rattle.fvn_syntax.specs.Names.{sorted_name, resolve_sort, declared_sort, same_sort}
use Rattle.fvn_syntax.specs.declared.sorts.RawSort.{RawSort}
use Rattle.fvn_syntax.specs.declared.names.Variables.{Variables}
use Rattle.fvn_module_syntax.specs.declared.statement.RawRank.{RawRank}
use Rattle.fvn_module_syntax.specs.declared.statement.Attribute.{Attribute}
use Rattle.fvn_module_syntax.specs.declared.statement.Attribute.TheVariants.{Identity}
use Rattle.fvn_module_syntax.specs.declared.statement.Statement.{Statement}
use Rattle.fvn_module_syntax.specs.declared.statement.Statement.TheVariants as statement
use Rattle.fvn_module_syntax.specs.LeftOut.{is_ditto}
use Rattle.fvn_module_names.specs.declared.fault.NameFault.{NameFault}
use Rattle.fvn_module_names.specs.declared.fault.NameFault.TheVariants.{UnknownName, Twice, NoMemory}
use Rattle.fvn_module_names.specs.Names.{operators_in, constants_in, sorts_of, operators_of, constants_of}
use Rattle.fvn_module_names.specs.Variables.{variables_of}
use Rattle.fvn_module_names.specs.Order.{kinds_in}

-- there is none
abbrev pub is_none : {A : Type 0} → Option A → Bool
is_none None = true
is_none (Some a) = false

-- the name is not among these
abbrev pub is_missing : List Text → Text → Bool
is_missing texts w = is_none (place texts w)

-- both sorts are there, and they are not the same
abbrev pub is_other : Option SortId → Option SortId → Bool
is_other (Some s) (Some q) = not (same_sort s q)
is_other s q = false

module _ (sorts ops : List Text) (kinds : List SortId) where
  -- a sort that is not declared, or a bracket with such a one or with sorts of two kinds
  abbrev pub is_unknown_sort : RawSort → Bool
  is_unknown_sort s = is_none (resolve_sort sorts kinds s)

  -- a rank with an unknown sort
  abbrev pub has_unknown_sort : RawRank → Bool
  has_unknown_sort r = list_any is_unknown_sort r.args || is_unknown_sort r.result

  -- an identity that is no operator
  abbrev pub is_unknown_identity : Attribute → Bool
  is_unknown_identity (Identity e) = is_missing ops e
  is_unknown_identity a = false

  -- `ditto`, and a name that is not among the earlier operators
  abbrev pub lacks_earlier : List Text → List Text → List Attribute → Bool
  lacks_earlier earlier ws xs = list_any is_ditto xs && list_any (is_missing earlier) ws

  -- what is unknown in the declaration of operators, behind these
  abbrev pub has_unknown : List Text → List Text → RawRank → List Attribute → Bool
  has_unknown earlier ws rank xs = has_unknown_sort rank || list_any is_unknown_identity xs || lacks_earlier earlier ws xs

  -- A statement behind those of these operators names something that is not declared. Sorts and identities may be
  -- declared behind it.
  abbrev pub names_unknown_after : List Text → Statement → Bool
  names_unknown_after earlier (statement.Sorts plural names) = false
  names_unknown_after earlier (statement.Subsorts plural groups) = list_any (list_any (is_missing sorts)) groups
  names_unknown_after earlier (statement.Operator name rank xs) = has_unknown earlier (operators_in (statement.Operator name rank xs)) rank xs
  names_unknown_after earlier (statement.Operators names rank xs) = has_unknown earlier (operators_in (statement.Operators names rank xs)) rank xs
  names_unknown_after earlier (statement.Variables plural names sort) = is_unknown_sort sort
  names_unknown_after earlier (statement.Equation label left right marks) = false

  -- the name of a constant that would be read as a variable: it ends with a colon, or is NAME:SORT
  abbrev pub reads_as_variable : Text → Bool
  reads_as_variable w = is_colon_name w || not (is_none (sorted_name sorts w))

  -- a constant that reads as a variable, or has the name of an earlier variable
  abbrev pub clashes : Variables → Text → Bool
  clashes xs w = reads_as_variable w || not (is_missing xs.texts w)

  -- a variable that was declared with another sort, or has the name of an earlier constant
  abbrev pub is_declared_otherwise : List Text → Variables → Option SortId → Text → Bool
  is_declared_otherwise constants xs s w =
      is_other (declared_sort xs.sorts (place xs.texts w)) s || not (is_missing constants w)

  -- a statement behind those of these constants and variables declares a name anew that is declared otherwise
  abbrev pub declares_twice_after : List Text → Variables → Statement → Bool
  declares_twice_after constants xs (statement.Sorts plural names) = false
  declares_twice_after constants xs (statement.Subsorts plural groups) = false
  declares_twice_after constants xs (statement.Operator name rank attributes) =
      list_any (clashes xs) (constants_in (statement.Operator name rank attributes))
  declares_twice_after constants xs (statement.Operators names rank attributes) =
      list_any (clashes xs) (constants_in (statement.Operators names rank attributes))
  declares_twice_after constants xs (statement.Variables plural names sort) =
      list_any (is_declared_otherwise constants xs (resolve_sort sorts kinds sort)) names
  declares_twice_after constants xs (statement.Equation label left right marks) = false

  -- the statement names a sort or an operator that no statement declares, or has `ditto` for a name that none of those
  -- before it declares
  abbrev pub names_unknown : List Statement → Statement → Bool
  names_unknown before st = names_unknown_after (operators_of before) st

  -- the statement declares a name anew that is declared otherwise before: what stands behind it does not count
  abbrev pub declares_twice : List Statement → Statement → Bool
  declares_twice before st = declares_twice_after (constants_of before) (variables_of sorts kinds before) st

  -- each statement of these, behind those, is without such a fault
  abbrev pub AreNamed : List Statement → List Statement → Type 0
  AreNamed before [] = Unit {0}
  AreNamed before (st ∷ sts) =
      (names_unknown before st ≡ false) × (declares_twice before st ≡ false) × AreNamed (before ++ (st ∷ [])) sts

-- no statement names what is not declared, or declares anew a name that is declared otherwise before it
abbrev pub HasNames : List Statement → Type 0
HasNames sts = AreNamed (sorts_of sts) (operators_of sts) (kinds_in sts) [] sts

-- The statement with this number is the first that is at fault, and this is what is wrong with it.
pub record IsFirstAt (sts : List Statement) (n : ℕ) (Wrong : List Statement → Statement → Type 0) : Type 0 where
  pub before : List Statement
  pub statement : Statement
  pub after : List Statement
  pub split : sts ≡ before ++ (statement ∷ after)
  pub number : n ≡ length before + 1
  pub named : AreNamed (sorts_of sts) (operators_of sts) (kinds_in sts) [] before
  pub wrong : Wrong before statement

module _ (sts : List Statement) where
  -- the statement names something that is not declared
  abbrev pub NamesUnknown : List Statement → Statement → Type 0
  NamesUnknown before st = names_unknown (sorts_of sts) (operators_of sts) (kinds_in sts) before st ≡ true

  -- the statement names nothing of the kind, and declares a name twice
  abbrev pub DeclaresTwice : List Statement → Statement → Type 0
  DeclaresTwice before st =
      (names_unknown (sorts_of sts) (operators_of sts) (kinds_in sts) before st ≡ false)
      × (declares_twice (sorts_of sts) (operators_of sts) (kinds_in sts) before st ≡ true)

  -- The first fault among the names of statements: in each statement what is unknown comes first.
  abbrev pub IsFirstFault : NameFault → Type 0
  IsFirstFault (UnknownName n) = IsFirstAt sts n NamesUnknown
  IsFirstFault (Twice n) = IsFirstAt sts n DeclaresTwice
  IsFirstFault NoMemory = ⊥
