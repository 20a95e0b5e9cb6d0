-- What a draft collects of statements is what they declare.
use Rattle.std.proofs.Common.{◌≡◌, ◌+◌, ◌≤◌, max, List, [], ◌∷◌, length, map, replicate, None, refl, sym, ap, ◌∙◌}
use Rattle.std.proofs.lemmas.List.{append-nil}
use Rattle.fvn_base.specs.declared.limits.TheConstants.{OPERATORS}
use Rattle.fvn_signature_draft.specs.declared.collected.Collected.{Collected}
use Rattle.fvn_syntax.specs.Pieces.{Text}
use Rattle.fvn_syntax.specs.Texts.{place_or_end}
use Rattle.fvn_module_syntax.specs.declared.statement.Statement.{Statement}
use Rattle.fvn_module_syntax.specs.declared.statement.Statement.TheVariants.{Sorts, Subsorts, Operator, Operators, Variables, Equation}
use Rattle.fvn_module_names.specs.Names.{joined, name_text, sorts_of, operators_of}
use Rattle.fvn_module_names.specs.Order.{with_pairs}
use Rattle.fvn_module_declarations.specs.Operators.{with_statements}
use Rattle.fvn_module_declarations.specs.Module.{collected_in}
use Rattle.fvn_module_declarations.specs.declared.shapes.Shape.{Shape}
use Rattle.fvn_module_names.specs.Vocabulary.{Vocabulary, vocabulary_of}
use Rattle.fvn_module_declarations.specs.inner.Shapes.{shape_of}
use Rattle.fvn_module_declarations.specs.inner.Drafts.{Draft, with_name, with_names, with_operators, with_all_operators}
use Rattle.fvn_module_names.proofs.TextCounts.{length-with_text}
use Rattle.fvn_module_declarations.proofs.Drafted.{IsDrafted, statements, all-others, all-names, drafted-none}

-- as many operators were collected as there are names
abbrev pub IsCounted : Draft → Type 0
IsCounted d = d.collected.operators ≡ length d.names

-- one more name is counted
pub name-counted : (d : Draft) (s : Shape) (w : Text) → IsCounted d → IsCounted (with_name d s w)
name-counted d s w h = ap (λ n. max n (place_or_end d.names w + 1)) h ∙ sym (length-with_text d.names w).1

names-counted : (d : Draft) (s : Shape) (ws : List Text) → IsCounted d → IsCounted (with_names d s ws)
names-counted d s [] h = h
names-counted d s (w ∷ ws) h = names-counted (with_name d s w) s ws (name-counted d s w h)

module _ (v : Vocabulary) where
  pub statement-counted : (d : Draft) (st : Statement) → IsCounted d → IsCounted (with_operators v d st)
  statement-counted d (Sorts plural ws) h = h
  statement-counted d (Subsorts plural groups) h = h
  statement-counted d (Operator name rank xs) h = names-counted d (shape_of v rank xs) (joined name ∷ []) h
  statement-counted d (Operators ws rank xs) h = names-counted d (shape_of v rank xs) (map name_text ws) h
  statement-counted d (Variables plural ws sort) h = h
  statement-counted d (Equation label left right marks) h = h

  all-counted : (d : Draft) (sts : List Statement) → IsCounted d → IsCounted (with_all_operators v d sts)
  all-counted d [] h = h
  all-counted d (st ∷ sts) h = all-counted (with_operators v d st) sts (statement-counted d st h)

-- the draft at the start, with the sorts of these statements and their order
abbrev pub draft_of : List Statement → Draft
draft_of sts = record {
  names = [];
  latest = replicate OPERATORS None;
  collected = record { sorts = length (sorts_of sts); below = with_pairs (sorts_of sts) [] sts; operators = 0; declarations = [] };
}

-- what statements declare is collected
pub collected-is : (sts : List Statement) → length (operators_of sts) ≤ OPERATORS → (with_all_operators (vocabulary_of sts) (draft_of sts) sts).collected ≡ collected_in sts
collected-is sts few =
    ap (λ (b : Collected). record b { operators = made.operators; declarations = made.declarations }) (all-others (vocabulary_of sts) few (draft_of sts) sts)
    ∙ ap (λ n. record (collected_in sts) { operators = n; declarations = made.declarations }) counted
    ∙ ap (λ ds. record (collected_in sts) { declarations = ds }) drafted.declarations where
      made : Collected
      made = (with_all_operators (vocabulary_of sts) (draft_of sts) sts).collected

      counted : made.operators ≡ length (operators_of sts)
      counted = all-counted (vocabulary_of sts) (draft_of sts) sts refl ∙ ap length (all-names (vocabulary_of sts) few (draft_of sts) sts)

      drafted : IsDrafted (with_statements (sorts_of sts) (operators_of sts) [] sts) (with_all_operators (vocabulary_of sts) (draft_of sts) sts)
      drafted = statements (vocabulary_of sts) few [] (draft_of sts) sts [] (sym (append-nil (operators_of sts))) (drafted-none (draft_of sts) refl refl)
