-- A draft holds what statements declare.
use Rattle.std.proofs.Common.{◌≡◌, ℕ, ◌<◌, ◌≤◌, Bool, true, false, cond, List, [], ◌∷◌, ◌++◌, length, map, get_or, set, replicate, Option, Some, None, refl, sym, ap, ◌∙◌, ◌⊎◌, inl, inr, arith}
use Rattle.std.specs.List.{list_any}
use Rattle.std.proofs.lemmas.Bool.{cases_eq, eq-eqb, ne_eqb, cond-true, cond-false}
use Rattle.std.proofs.lemmas.List.{append_assoc, length-append, length-set, get_or-set_same, get_or-set_other, length-replicate, get_or-replicate}
use Rattle.fvn_base.specs.declared.limits.TheConstants.{OPERATORS}
use Rattle.fvn_terms.specs.declared.plain.OpId.{OpId}
use Rattle.fvn_terms.specs.declared.declarations.Axioms.{Axioms}
use Rattle.fvn_signature_draft.specs.declared.collected.Declaration.{Declaration}
use Rattle.fvn_signature_draft.specs.Collected.{op_number, same_op}
use Rattle.fvn_syntax.specs.Pieces.{Text}
use Rattle.fvn_syntax.specs.Texts.{place_or_end, with_text}
use Rattle.fvn_module_syntax.specs.declared.statement.RawRank.{RawRank}
use Rattle.fvn_module_syntax.specs.declared.statement.Attribute.{Attribute}
use Rattle.fvn_module_syntax.specs.declared.statement.Statement.{Statement}
use Rattle.fvn_module_syntax.specs.declared.statement.Statement.TheVariants.{Sorts, Subsorts, Operator, Operators, Variables, Equation}
use Rattle.fvn_module_syntax.specs.LeftOut.{is_ditto}
use Rattle.fvn_module_names.specs.Names.{joined, name_text, operators_in, with_texts, with_names as with_all_names}
use Rattle.fvn_module_names.specs.Order.{with_new, with_all}
use Rattle.fvn_module_declarations.specs.Operators.{same_declaration, or_else, or_free, nearest, axioms_of, declared_axioms, declaration_of, with_declarations, with_statement, with_statements}
use Rattle.fvn_module_declarations.specs.declared.shapes.Shape.{Shape}
use Rattle.fvn_module_names.specs.Vocabulary.{Vocabulary}
use Rattle.fvn_module_declarations.specs.inner.Shapes.{shape_of}
use Rattle.fvn_module_declarations.specs.inner.Drafts.{Draft, declared, axioms_in, with_name, with_names, with_operators, with_all_operators}
use Rattle.fvn_module_names.proofs.NewLists.{with_all-append}
use Rattle.fvn_module_names.proofs.TextCounts.{length-with_text, begins-texts, begins-names, placed}

-- the axioms of the nearest declaration, with one declaration more
nearest-push : (f : OpId) (es : List Declaration) (d : Declaration) → nearest f (es ++ d ∷ []) ≡ cond (same_op d.op f) (Some d.axioms) (nearest f es)
nearest-push f [] d = refl
nearest-push f (e ∷ es) d = ap (λ o. or_else o (cond (same_op e.op f) (Some e.axioms) None)) (nearest-push f es d) ∙ go (same_op d.op f) where
  go : (b : Bool) → or_else (cond b (Some d.axioms) (nearest f es)) (cond (same_op e.op f) (Some e.axioms) None) ≡ cond b (Some d.axioms) (nearest f (e ∷ es))
  go true = refl
  go false = refl

-- the draft has these declarations, each once, and the axioms of the nearest of each operator
pub record IsDrafted (before : List Declaration) (d : Draft) : Type 0 where
  pub declarations : d.collected.declarations ≡ with_all same_declaration [] before
  pub latest : (f : ℕ) → f < OPERATORS → get_or d.latest f None ≡ nearest (op_number f) before
  pub long : length d.latest ≡ OPERATORS

module _ (v : Vocabulary) (few : length v.ops ≤ OPERATORS) where
  module _ (rank : RawRank) (xs : List Attribute) where
    one : (before : List Declaration) (d : Draft) (w : Text) (rest : List Text) → v.ops ≡ with_text d.names w ++ rest → IsDrafted before d →
        IsDrafted (before ++ declaration_of v.sorts v.ops before rank xs w ∷ []) (with_name d (shape_of v rank xs) w)
    one before d w rest begins h = record { declarations = declarations; latest = latest; long = length-set d.latest (place_or_end d.names w) (Some (axioms_in d (shape_of v rank xs) w)) ∙ h.long } where
      small : place_or_end d.names w < OPERATORS
      small =
          let e = (length-with_text d.names w).1 in
          let all = ap length begins ∙ length-append (with_text d.names w) rest in
          omega (arith, few)

      op_is : op_number (place_or_end d.names w) ≡ op_number (place_or_end v.ops w)
      op_is = ap op_number (placed d.names v.ops rest w begins)

      nearest_is : get_or d.latest (place_or_end d.names w) None ≡ nearest (op_number (place_or_end v.ops w)) before
      nearest_is = h.latest (place_or_end d.names w) small ∙ ap (λ f. nearest f before) op_is

      axioms_are : axioms_in d (shape_of v rank xs) w ≡ declared_axioms v.sorts v.ops before (op_number (place_or_end v.ops w)) xs
      axioms_are = go (list_any is_ditto xs) where
        go : (b : Bool) → or_free (or_else (cond b None (Some (axioms_of v.sorts v.ops xs))) (get_or d.latest (place_or_end d.names w) None))
            ≡ cond b (or_free (nearest (op_number (place_or_end v.ops w)) before)) (axioms_of v.sorts v.ops xs)
        go true = ap or_free nearest_is
        go false = refl

      declaration_is : declared (op_number (place_or_end d.names w)) (shape_of v rank xs) (axioms_in d (shape_of v rank xs) w) ≡ declaration_of v.sorts v.ops before rank xs w
      declaration_is = ap (λ f. declared f (shape_of v rank xs) (axioms_in d (shape_of v rank xs) w)) op_is ∙ ap (declared (op_number (place_or_end v.ops w)) (shape_of v rank xs)) axioms_are

      declarations : with_new same_declaration d.collected.declarations (declared (op_number (place_or_end d.names w)) (shape_of v rank xs) (axioms_in d (shape_of v rank xs) w))
          ≡ with_all same_declaration [] (before ++ declaration_of v.sorts v.ops before rank xs w ∷ [])
      declarations =
          ap (with_new same_declaration d.collected.declarations) declaration_is
          ∙ ap (λ ds. with_new same_declaration ds (declaration_of v.sorts v.ops before rank xs w)) h.declarations
          ∙ sym (with_all-append same_declaration [] before (declaration_of v.sorts v.ops before rank xs w ∷ []))

      latest : (f : ℕ) → f < OPERATORS → get_or (set d.latest (place_or_end d.names w) (Some (axioms_in d (shape_of v rank xs) w))) f None ≡ nearest (op_number f) (before ++ declaration_of v.sorts v.ops before rank xs w ∷ [])
      latest f l = go (cases_eq f (place_or_end d.names w)) ∙ sym (nearest-push (op_number f) before (declaration_of v.sorts v.ops before rank xs w)) where
        here : place_or_end d.names w ≡ place_or_end v.ops w
        here = placed d.names v.ops rest w begins

        go : (f ≡ place_or_end d.names w) ⊎ (f ≡ place_or_end d.names w → ⊥) →
            get_or (set d.latest (place_or_end d.names w) (Some (axioms_in d (shape_of v rank xs) w))) f None
            ≡ cond (same_op (op_number (place_or_end v.ops w)) (op_number f)) (Some (declared_axioms v.sorts v.ops before (op_number (place_or_end v.ops w)) xs)) (nearest (op_number f) before)
        go (inl e) =
            ap (λ n. get_or (set d.latest (place_or_end d.names w) (Some (axioms_in d (shape_of v rank xs) w))) n None) e
            ∙ get_or-set_same d.latest (place_or_end d.names w) (Some (axioms_in d (shape_of v rank xs) w)) None (let s = small in let long = h.long in omega arith)
            ∙ ap Some axioms_are
            ∙ sym (cond-true (same_op (op_number (place_or_end v.ops w)) (op_number f)) (Some (declared_axioms v.sorts v.ops before (op_number (place_or_end v.ops w)) xs)) (nearest (op_number f) before) (eq-eqb (place_or_end v.ops w) f (sym (e ∙ here))))
        go (inr ne) =
            get_or-set_other d.latest (place_or_end d.names w) f (Some (axioms_in d (shape_of v rank xs) w)) None ne
            ∙ h.latest f l
            ∙ sym (cond-false (same_op (op_number (place_or_end v.ops w)) (op_number f)) (Some (declared_axioms v.sorts v.ops before (op_number (place_or_end v.ops w)) xs)) (nearest (op_number f) before) (ne_eqb (place_or_end v.ops w) f (λ e. ne (sym e ∙ sym here))))

    names : (before : List Declaration) (d : Draft) (ws rest : List Text) → v.ops ≡ with_texts d.names ws ++ rest → IsDrafted before d →
        IsDrafted (with_declarations v.sorts v.ops before rank xs ws) (with_names d (shape_of v rank xs) ws)
    names before d [] rest begins h = h
    names before d (w ∷ ws) rest begins h =
        let front = begins-texts (with_text d.names w) ws in
        let here : v.ops ≡ with_text d.names w ++ (front.0 ++ rest) = begins ∙ ap (λ ts. ts ++ rest) front.1 ∙ append_assoc (with_text d.names w) front.0 rest in
        names (before ++ declaration_of v.sorts v.ops before rank xs w ∷ []) (with_name d (shape_of v rank xs) w) ws rest begins (one before d w (front.0 ++ rest) here h)

  statement : (before : List Declaration) (d : Draft) (st : Statement) (rest : List Text) → v.ops ≡ with_texts d.names (operators_in st) ++ rest → IsDrafted before d →
      IsDrafted (with_statement v.sorts v.ops before st) (with_operators v d st)
  statement before d (Sorts plural ws) rest begins h = h
  statement before d (Subsorts plural groups) rest begins h = h
  statement before d (Operator name rank xs) rest begins h = names rank xs before d (joined name ∷ []) rest begins h
  statement before d (Operators ws rank xs) rest begins h = names rank xs before d (map name_text ws) rest begins h
  statement before d (Variables plural ws sort) rest begins h = h
  statement before d (Equation label left right marks) rest begins h = h

  -- Names and the other parts.

  names-names : (d : Draft) (s : Shape) (ws : List Text) → (with_names d s ws).names ≡ with_texts d.names ws
  names-names d s [] = refl
  names-names d s (w ∷ ws) = names-names (with_name d s w) s ws

  pub statement-names : (d : Draft) (st : Statement) → (with_operators v d st).names ≡ with_texts d.names (operators_in st)
  statement-names d (Sorts plural ws) = refl
  statement-names d (Subsorts plural groups) = refl
  statement-names d (Operator name rank xs) = names-names d (shape_of v rank xs) (joined name ∷ [])
  statement-names d (Operators ws rank xs) = names-names d (shape_of v rank xs) (map name_text ws)
  statement-names d (Variables plural ws sort) = refl
  statement-names d (Equation label left right marks) = refl

  -- sorts and their order stay
  names-others : (d : Draft) (s : Shape) (ws : List Text) → record (with_names d s ws).collected { operators = 0; declarations = [] } ≡ record d.collected { operators = 0; declarations = [] }
  names-others d s [] = refl
  names-others d s (w ∷ ws) = names-others (with_name d s w) s ws

  pub statement-others : (d : Draft) (st : Statement) → record (with_operators v d st).collected { operators = 0; declarations = [] } ≡ record d.collected { operators = 0; declarations = [] }
  statement-others d (Sorts plural ws) = refl
  statement-others d (Subsorts plural groups) = refl
  statement-others d (Operator name rank xs) = names-others d (shape_of v rank xs) (joined name ∷ [])
  statement-others d (Operators ws rank xs) = names-others d (shape_of v rank xs) (map name_text ws)
  statement-others d (Variables plural ws sort) = refl
  statement-others d (Equation label left right marks) = refl

  pub all-others : (d : Draft) (sts : List Statement) → record (with_all_operators v d sts).collected { operators = 0; declarations = [] } ≡ record d.collected { operators = 0; declarations = [] }
  all-others d [] = refl
  all-others d (st ∷ sts) = all-others (with_operators v d st) sts ∙ statement-others d st

  pub all-names : (d : Draft) (sts : List Statement) → (with_all_operators v d sts).names ≡ with_all_names operators_in d.names sts
  all-names d [] = refl
  all-names d (st ∷ sts) = all-names (with_operators v d st) sts ∙ ap (λ ts. with_all_names operators_in ts sts) (statement-names d st)

  pub statements : (before : List Declaration) (d : Draft) (sts : List Statement) (rest : List Text) → v.ops ≡ with_all_names operators_in d.names sts ++ rest → IsDrafted before d →
      IsDrafted (with_statements v.sorts v.ops before sts) (with_all_operators v d sts)
  statements before d [] rest begins h = h
  statements before d (st ∷ sts) rest begins h =
      let front = begins-names operators_in (with_texts d.names (operators_in st)) sts in
      let here : v.ops ≡ with_texts d.names (operators_in st) ++ (front.0 ++ rest) = begins ∙ ap (λ ts. ts ++ rest) front.1 ∙ append_assoc (with_texts d.names (operators_in st)) front.0 rest in
      let there : v.ops ≡ with_all_names operators_in (with_operators v d st).names sts ++ rest = begins ∙ ap (λ ts. with_all_names operators_in ts sts ++ rest) (sym (statement-names d st)) in
      statements (with_statement v.sorts v.ops before st) (with_operators v d st) sts rest there (statement before d st (front.0 ++ rest) here h)

-- the draft without a declaration
pub drafted-none : (d : Draft) → d.latest ≡ replicate OPERATORS None → d.collected.declarations ≡ [] → IsDrafted [] d
drafted-none d latest none = record {
  declarations = none;
  latest = λ f l. ap (λ os. get_or os f None) latest ∙ get_or-replicate OPERATORS f None None l;
  long = ap length latest ∙ length-replicate {A = Option Axioms} OPERATORS None;
}
