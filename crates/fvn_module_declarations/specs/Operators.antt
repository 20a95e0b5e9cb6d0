-- What statements declare of operators.
use Rattle.std.specs.Prelude.{◌+◌, Bool, ◌&&◌, true, false, if◌then◌else◌, List, [], ◌∷◌, ◌++◌, map, Option, Some, None}
use Rattle.std.specs.List.{list_any}
use Rattle.fvn_terms.specs.declared.plain.OpId.{OpId}
use Rattle.fvn_terms.specs.declared.plain.SortId.{SortId}
use Rattle.fvn_terms.specs.declared.declarations.Axioms.{Axioms}
use Rattle.fvn_terms.specs.declared.declarations.Axioms.TheVariants.{Free, Comm, AssocComm, AssocCommId}
use Rattle.fvn_terms.specs.declared.declarations.Rank.{Rank}
use Rattle.fvn_forms.specs.SortOrder.{same_sort}
use Rattle.fvn_signature_draft.specs.declared.collected.Declaration.{Declaration}
use Rattle.fvn_signature_draft.specs.Collected.{same_op, first_kind_number}
use Rattle.fvn_syntax.specs.Pieces.{Text}
use Rattle.fvn_syntax.specs.Texts.{place_or_end}
use Rattle.fvn_syntax.specs.declared.sorts.RawSort.{RawSort}
use Rattle.fvn_syntax.specs.declared.sorts.RawSort.TheVariants.{Name, Kind}
use Rattle.fvn_module_syntax.specs.declared.statement.RawRank.{RawRank}
use Rattle.fvn_module_syntax.specs.declared.statement.Attribute.{Attribute}
use Rattle.fvn_module_syntax.specs.declared.statement.Attribute.TheVariants.{Comm, Identity}
use Rattle.fvn_module_syntax.specs.declared.statement.Statement.{Statement}
use Rattle.fvn_module_syntax.specs.declared.statement.Statement.TheVariants.{Sorts, Subsorts, Operator, Operators, Variables, Equation}
use Rattle.fvn_module_syntax.specs.LeftOut.{is_assoc, is_comm, is_ditto}
use Rattle.fvn_module_names.specs.Names.{joined, name_text}
use Rattle.fvn_module_names.specs.Order.{with_all}

-- Sameness of declarations.

-- whether both hold or neither does
abbrev pub alike : Bool → Bool → Bool
alike true b = b
alike false true = false
alike false false = true

-- whether two lists of sorts are the same
abbrev pub same_sorts : List SortId → List SortId → Bool
same_sorts [] [] = true
same_sorts [] (q ∷ qs) = false
same_sorts (s ∷ ss) [] = false
same_sorts (s ∷ ss) (q ∷ qs) = same_sort s q && same_sorts ss qs

-- whether two operators have the same axioms
abbrev pub same_axioms : Axioms → Axioms → Bool
same_axioms Free Free = true
same_axioms Comm Comm = true
same_axioms AssocComm AssocComm = true
same_axioms (AssocCommId e) (AssocCommId g) = same_op e g
same_axioms a b = false

-- whether two declarations are the same
abbrev pub same_declaration : Declaration → Declaration → Bool
same_declaration d e =
    same_op d.op e.op && alike d.partial e.partial && same_axioms d.axioms e.axioms
    && same_sort d.rank.result e.rank.result && same_sorts d.rank.args e.rank.args

-- Axioms.

-- the first of two, where there is one
abbrev pub or_else : {A : Type 0} → Option A → Option A → Option A
or_else None later = later
or_else (Some a) later = Some a

-- the identity that attributes name; a further one has no effect
abbrev pub identity_in : List Attribute → Option Text
identity_in [] = None
identity_in (Identity e ∷ xs) = Some e
identity_in (a ∷ xs) = identity_in xs

-- the axioms of the nearest earlier declaration of an operator
abbrev pub nearest : OpId → List Declaration → Option Axioms
nearest f [] = None
nearest f (e ∷ es) = or_else (nearest f es) (if same_op e.op f then Some e.axioms else None)

-- these axioms, or none
abbrev pub or_free : Option Axioms → Axioms
or_free None = Free
or_free (Some a) = a

module _ (sorts ops : List Text) where
  -- the operator of a name
  abbrev pub op_number : Text → OpId
  op_number w = record { 0 = place_or_end ops w }

  -- the axioms of a sum, with an identity where one is named
  abbrev pub sum_axioms : Option Text → Axioms
  sum_axioms None = AssocComm
  sum_axioms (Some e) = AssocCommId (op_number e)

  -- the axioms that attributes give
  abbrev pub axioms_of : List Attribute → Axioms
  axioms_of xs =
      if list_any is_comm xs then (if list_any is_assoc xs then sum_axioms (identity_in xs) else Comm) else Free

  -- the axioms of a declaration: with `ditto` those of the nearest earlier one of its operator
  abbrev pub declared_axioms : List Declaration → OpId → List Attribute → Axioms
  declared_axioms before f xs = if list_any is_ditto xs then or_free (nearest f before) else axioms_of xs

  -- the number by which a rank names a sort, or the kind of the sorts in a bracket
  abbrev pub rank_number : RawSort → SortId
  rank_number (Name s) = record { 0 = place_or_end sorts s }
  rank_number (Kind s ss) = record { 0 = first_kind_number + place_or_end sorts s }

  -- the rank that is written
  abbrev pub rank_of : RawRank → Rank
  rank_of r = record { args = map rank_number r.args; result = rank_number r.result }

  -- the declaration of one name
  abbrev pub declaration_of : List Declaration → RawRank → List Attribute → Text → Declaration
  declaration_of before rank xs w =
      record { op = op_number w; rank = rank_of rank; partial = rank.partial; axioms = declared_axioms before (op_number w) xs }

  -- the declarations so far with those of names, one after the other
  abbrev pub with_declarations : List Declaration → RawRank → List Attribute → List Text → List Declaration
  with_declarations before rank xs [] = before
  with_declarations before rank xs (w ∷ ws) = with_declarations (before ++ (declaration_of before rank xs w ∷ [])) rank xs ws

  -- the declarations so far with those of a statement
  abbrev pub with_statement : List Declaration → Statement → List Declaration
  with_statement before (Sorts plural names) = before
  with_statement before (Subsorts plural groups) = before
  with_statement before (Operator name rank xs) = with_declarations before rank xs (joined name ∷ [])
  with_statement before (Operators names rank xs) = with_declarations before rank xs (map name_text names)
  with_statement before (Variables plural names sort) = before
  with_statement before (Equation label left right marks) = before

  -- the declarations so far with those of statements
  abbrev pub with_statements : List Declaration → List Statement → List Declaration
  with_statements before [] = before
  with_statements before (st ∷ sts) = with_statements (with_statement before st) sts

  -- the declarations of statements, each once
  abbrev pub declarations_in : List Statement → List Declaration
  declarations_in sts = with_all same_declaration [] (with_statements [] sts)
