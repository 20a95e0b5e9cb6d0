-- Declarations as they are collected, name by name.
use Rattle.std.specs.Prelude.{◌≡◌, ◌+◌, max, List, [], ◌∷◌, map, length, slice_index_or, slice_set, Option, Some, None}
use Rattle.fvn_base.specs.declared.limits.TheConstants.{OPERATORS}
use Rattle.fvn_terms.specs.declared.plain.OpId.{OpId}
use Rattle.fvn_terms.specs.declared.declarations.Axioms.{Axioms}
use Rattle.fvn_signature_draft.specs.declared.collected.Declaration.{Declaration}
use Rattle.fvn_signature_draft.specs.declared.collected.Collected.{Collected}
use Rattle.fvn_signature_draft.specs.Collected.{op_number}
use Rattle.fvn_syntax.specs.Pieces.{Text}
use Rattle.fvn_syntax.specs.Texts.{place_or_end, with_text}
use Rattle.fvn_module_syntax.specs.declared.statement.Statement.{Statement}
use Rattle.fvn_module_syntax.specs.declared.statement.Statement.TheVariants.{Sorts, Subsorts, Operator, Operators, Variables, Equation}
use Rattle.fvn_module_declarations.specs.declared.shapes.Shape.{Shape}
use Rattle.fvn_module_names.specs.Names.{joined, name_text}
use Rattle.fvn_module_names.specs.Order.{with_new}
use Rattle.fvn_module_declarations.specs.Operators.{same_declaration, or_else, or_free}
use Rattle.fvn_module_names.specs.Vocabulary.{Vocabulary}
use Rattle.fvn_module_declarations.specs.inner.Shapes.{shape_of}
use Rattle.fvn_module_declarations.specs.inner.Codes.{code}

-- the operators so far, the axioms of the latest declaration of each, and what was collected
pub record Draft : Type 0 where
  pub names : List Text
  pub latest : List (Option Axioms)
  pub collected : Collected

-- the parts of a draft go together; the codes are of the declarations
pub record IsDraft (names : List Text) (latest : List (Option Axioms)) (codes : List Text) (c : Collected) : Type 0 where
  pub codes_are : codes ≡ map code c.declarations
  pub count : c.operators ≡ length names
  pub long : length latest ≡ OPERATORS

-- the declaration of an operator of this shape, with these axioms
abbrev pub declared : OpId → Shape → Axioms → Declaration
declared f s axioms = record { op = f; rank = s.rank; partial = s.partial; axioms = axioms }

-- what was collected, with one more declaration, unless there is one like it
abbrev pub with_one : Collected → Declaration → Collected
with_one c d = record c { operators = max c.operators (d.op.0 + 1); declarations = with_new same_declaration c.declarations d }

-- the axioms of one more declaration of the operator with a name
abbrev pub axioms_in : Draft → Shape → Text → Axioms
axioms_in d s w = or_free (or_else s.axioms (slice_index_or d.latest (place_or_end d.names w) None))

-- the draft with one more declaration
abbrev pub with_name : Draft → Shape → Text → Draft
with_name d s w = record {
  names = with_text d.names w;
  latest = slice_set d.latest (place_or_end d.names w) (Some (axioms_in d s w));
  collected = with_one d.collected (declared (op_number (place_or_end d.names w)) s (axioms_in d s w));
}

-- the draft with a declaration for each of these names
abbrev pub with_names : Draft → Shape → List Text → Draft
with_names d s [] = d
with_names d s (w ∷ ws) = with_names (with_name d s w) s ws

module _ (v : Vocabulary) where
  -- the draft with what a statement declares
  abbrev pub with_operators : Draft → Statement → Draft
  with_operators d (Sorts plural names) = d
  with_operators d (Subsorts plural groups) = d
  with_operators d (Operator name rank xs) = with_names d (shape_of v rank xs) (joined name ∷ [])
  with_operators d (Operators names rank xs) = with_names d (shape_of v rank xs) (map name_text names)
  with_operators d (Variables plural names sort) = d
  with_operators d (Equation label left right marks) = d

  -- the draft with what statements declare
  abbrev pub with_all_operators : Draft → List Statement → Draft
  with_all_operators d [] = d
  with_all_operators d (st ∷ sts) = with_all_operators (with_operators d st) sts
